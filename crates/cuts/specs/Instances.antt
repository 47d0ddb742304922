-- Instances of the problem, cuts, and the fewest links of a cut. Of a tree and its pairs of terms only this much counts:
-- which links are live, which pairs are open, and which link is on which pair's road.
--     Instance          links are numbered 1 to highest, pairs from 0 up to, and without, the number pairs
--     Live i l          the link l can still be cut
--     Open i p          the pair p is still to be parted
--     On i l p          the link l is on the road of the pair p, the path in the tree between its two terms
--     Sound i           live links and open pairs are within the numbering; only live links are on roads, only open pairs have one
--     size i s          how many links the set s has
--     Met i s p         some link of s is on the road of p
--     Cut i s           s has live links only and meets every open pair: a multicut
--     CutWithin i k s   a cut of at most k links
--     HasCut i k        there is one
--     Fewest i n        there is a cut of n links, and no cut has fewer
--     NoEmptyRoad i     each open pair has a link on its road; a pair without could never be parted
use Rattle.std.specs.Prelude.{◌≡◌, ℕ, ◌<◌, ◌≤◌, Bool, true}
use Rattle.cuts.specs.Links.{Links, In, count}

pub record Instance : Type 0 where
  pub highest : ℕ
  pub pairs : ℕ
  pub live : ℕ → Bool
  pub opened : ℕ → Bool
  pub on : ℕ → ℕ → Bool

abbrev pub Live : Instance → ℕ → Type 0
Live i l = i.live l ≡ true

abbrev pub Open : Instance → ℕ → Type 0
Open i p = i.opened p ≡ true

abbrev pub On : Instance → ℕ → ℕ → Type 0
On i l p = i.on l p ≡ true

pub record Sound (i : Instance) : Type 0 where
  pub from_one : (l : ℕ) → Live i l → 1 ≤ l
  pub to_highest : (l : ℕ) → Live i l → l ≤ i.highest
  pub numbered : (p : ℕ) → Open i p → p < i.pairs
  pub on_live : (l p : ℕ) → On i l p → Live i l
  pub on_open : (l p : ℕ) → On i l p → Open i p

abbrev pub size : Instance → Links → ℕ
size i s = count s i.highest

abbrev pub Met : Instance → Links → ℕ → Type 0
Met i s p = (l : ℕ) × In s l × On i l p

pub record Cut (i : Instance) (s : Links) : Type 0 where
  pub inside : (l : ℕ) → In s l → Live i l
  pub meets : (p : ℕ) → Open i p → Met i s p

pub record CutWithin (i : Instance) (k : ℕ) (s : Links) : Type 0 where
  pub cut : Cut i s
  pub small : size i s ≤ k

abbrev pub HasCut : Instance → ℕ → Type 0
HasCut i k = (s : Links) × CutWithin i k s

pub record Fewest (i : Instance) (n : ℕ) : Type 0 where
  pub attained : (s : Links) × Cut i s × (size i s ≡ n)
  pub least : (s : Links) → Cut i s → n ≤ size i s

abbrev pub NoEmptyRoad : Instance → Type 0
NoEmptyRoad i = (p : ℕ) → Open i p → (l : ℕ) × On i l p

-- What a rough cut promises, in the words of cuts alone.
--     listed_in xs          the set of the links that stand in xs
--     RoughCut m ls ps      ls is a cut, rising; ps are open pairs that share no link, two by two; so every cut has at least
--                           as many links as ps has pairs, and ls has at most twice the links of any cut
--     OneOrder m            the open pairs stand in order in one way, and that is what the list in_order is
--     Laid m c xs ys        the order is that one; the counts c tell the fronts of two slices, and these are such a cut and
--                           such pairs
--     LowestEmpty m p       p is the lowest open pair with no link on its road, and so there is no cut at all
--     Promised m r xs ys    the first where the answer r is no refusal, the second where r refuses an empty road
use Rattle.std.specs.Prelude.{◌≡◌, ℕ, ◌*◌, ◌<◌, ◌≤◌, List, length, take, Ok, Err}
use Rattle.std.specs.List.{AllByRecursion}
use Rattle.cuts.specs.Instances.{Cut, On, Open, size}
use Rattle.cuts.specs.Links.{Links}
use Rattle.cuts.specs.Rules.{Never, Pairwise, Share}
use Rattle.plan.specs.Tree.{among}
use Rattle.book.specs.Meaning.{Meaning}
use Rattle.book.specs.Posed.{posed}
use Rattle.rough.specs.Order.{InOrder, in_order}
use Rattle.rough.specs.Outcome.{Counts}
use Rattle.rough.specs.declared.fault.RoughFault.{RoughFault}
use Rattle.rough.specs.declared.fault.RoughFault.TheVariants.{EmptyRoad, LinksBuffer, PairsBuffer}

abbrev pub listed_in : List ℕ → Links
listed_in xs l = among l xs

pub record RoughCut (m : Meaning) (ls ps : List ℕ) : Type 0 where
  pub cut : Cut (posed m) (listed_in ls)
  pub rising : Pairwise ◌<◌ ls
  pub opened : AllByRecursion (Open (posed m)) ps
  pub apart : Pairwise (Share (posed m) Never) ps
  pub at_least : (s : Links) → Cut (posed m) s → length ps ≤ size (posed m) s
  pub twice : length ls ≤ 2 * length ps
  pub at_most : (s : Links) → Cut (posed m) s → length ls ≤ 2 * size (posed m) s

abbrev pub OneOrder : Meaning → Type 0
OneOrder m = InOrder m (in_order m) × ((ps : List ℕ) → InOrder m ps → ps ≡ in_order m)

pub record Laid (m : Meaning) (c : ℕ × ℕ) (xs ys : List ℕ) : Type 0 where
  pub order : OneOrder m
  pub links : length (take c.0 xs) ≡ c.0
  pub pairs : length (take c.1 ys) ≡ c.1
  pub rough : RoughCut m (take c.0 xs) (take c.1 ys)

pub record LowestEmpty (m : Meaning) (p : ℕ) : Type 0 where
  pub opened : Open (posed m) p
  pub empty : (l : ℕ) → On (posed m) l p → ⊥
  pub lower : (q : ℕ) → q < p → Open (posed m) q → (l : ℕ) × On (posed m) l q
  pub no_cut : (s : Links) → Cut (posed m) s → ⊥

abbrev pub Refused : Meaning → RoughFault → Type 0
Refused m (EmptyRoad p) = LowestEmpty m p
Refused m (LinksBuffer n) = Unit {0}
Refused m (PairsBuffer n) = Unit {0}

abbrev pub Promised : Meaning → Counts → List ℕ → List ℕ → Type 0
Promised m (Ok c) xs ys = Laid m c xs ys
Promised m (Err e) xs ys = Refused m e

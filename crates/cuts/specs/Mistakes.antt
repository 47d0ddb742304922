-- Three rules that look right and are wrong, each with a small instance that shows it.
--     WeldBoth     weld both of two links that dominate each other
--     DropBoth     drop both of two pairs that dominate each other
--     CutLoose     cut a link that k + 1 pairs have on their roads, though they share another link too
--     two_links    the links 1 and 2 are on the one road: one link parts the pair, and with both welded none can
--     two_pairs    the link 1 is on two roads: one link is needed, and with both pairs dropped none is
--     side_road    the links 1 and 2 are on two roads, the link 2 alone on a third: 2 parts all, who cuts 1 needs 2 as well
use Rattle.std.specs.Prelude.{ℕ, ◌-◌, ◌≤◌, List, [], ◌∷◌}
use Rattle.std.specs.List.{AllByRecursion}
use Rattle.cuts.specs.After.{cut_link, drop_pair, weld_link}
use Rattle.cuts.specs.Drawn.{drawn}
use Rattle.cuts.specs.Instances.{Instance, Live, On, Sound, Fewest}
use Rattle.cuts.specs.Links.{none, one}
use Rattle.cuts.specs.Reduces.{Reduces}
use Rattle.cuts.specs.Rules.{Crowd, DominatedLink, DominatedPair}

-- when the wrong rules would apply
pub record TwinLinks (i : Instance) (l h : ℕ) : Type 0 where
  pub there : DominatedLink i l h
  pub back : DominatedLink i h l

pub record TwinPairs (i : Instance) (q r : ℕ) : Type 0 where
  pub there : DominatedPair i q r
  pub back : DominatedPair i r q

pub record LooseLink (i : Instance) (k l : ℕ) (qs : List ℕ) : Type 0 where
  pub live : Live i l
  pub crowd : Crowd i k qs
  pub through : AllByRecursion (On i l) qs

-- what they claim
abbrev pub WeldBoth : Type 0
WeldBoth = (i : Instance) → Sound i → (k l h : ℕ) → TwinLinks i l h → Reduces i k (weld_link (weld_link i l) h) k none

abbrev pub DropBoth : Type 0
DropBoth = (i : Instance) → Sound i → (k q r : ℕ) → TwinPairs i q r → Reduces i k (drop_pair (drop_pair i q) r) k none

abbrev pub CutLoose : Type 0
CutLoose =
    (i : Instance) → Sound i → (k l : ℕ) (qs : List ℕ) → 1 ≤ k → LooseLink i k l qs → Reduces i k (cut_link i l) (k - 1) (one l)

abbrev pub two_links : Instance
two_links = drawn 2 ((1 ∷ 2 ∷ []) ∷ [])

abbrev pub two_pairs : Instance
two_pairs = drawn 1 ((1 ∷ []) ∷ (1 ∷ []) ∷ [])

abbrev pub side_road : Instance
side_road = drawn 2 ((1 ∷ 2 ∷ []) ∷ (1 ∷ 2 ∷ []) ∷ (2 ∷ []) ∷ [])

-- what the instances show, and that it refutes the claims
pub record WeldBothIsWrong : Type 0 where
  pub twins : TwinLinks two_links 1 2
  pub whole : Fewest two_links 1
  pub rest : (n : ℕ) → Fewest (weld_link (weld_link two_links 1) 2) n → ⊥
  pub refuted : WeldBoth → ⊥

pub record DropBothIsWrong : Type 0 where
  pub twins : TwinPairs two_pairs 0 1
  pub whole : Fewest two_pairs 1
  pub rest : Fewest (drop_pair (drop_pair two_pairs 0) 1) 0
  pub refuted : DropBoth → ⊥

pub record CutLooseIsWrong : Type 0 where
  pub loose : LooseLink side_road 1 1 (0 ∷ 1 ∷ [])
  pub whole : Fewest side_road 1
  pub rest : Fewest (cut_link side_road 1) 1
  pub refuted : CutLoose → ⊥

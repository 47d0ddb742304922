-- Steps: one rule with the links and pairs that it is applied to.
--     Step                 the rule, with its link and its pairs
--     Admitted i k s       the rule applies, and where it cuts there is something left to cut with
--     is_admitted i k s    the same as a test that computes
--     after i s            the instance after the step
--     left_after k s       what is left after it
--     cut_by s             the links that it cuts
--     cost_of s            how many these are: 1 or 0
-- After disjoint pairs the instance stays as it is: there is no cut within what is left, and the work is at its end.
use Rattle.std.specs.Prelude.{ℕ, ◌-◌, ◌≤◌, Bool, ◌&&◌, List, nat_le}
use Rattle.cuts.specs.After.{cut_link, drop_pair, weld_link}
use Rattle.cuts.specs.Instances.{Instance}
use Rattle.cuts.specs.Links.{Links, none, one}
use Rattle.cuts.specs.Rules.{IdleLink, DominatedLink, UnitRoad, DominatedPair, CommonFactor, OverloadedLink, DisjointPairs}
use Rattle.cuts.specs.Tests.{is_common_factor, is_disjoint_pairs, is_dominated_link, is_dominated_pair, is_idle_link, is_overloaded_link, is_unit_road}

pub data Step : Type 0 where
  idle_link : ℕ → Step
  dominated_link : ℕ → ℕ → Step
  unit_road : ℕ → ℕ → Step
  dominated_pair : ℕ → ℕ → Step
  common_factor : ℕ → List ℕ → Step
  overloaded_link : ℕ → List ℕ → Step
  disjoint_pairs : List ℕ → Step

abbrev pub Admitted : Instance → ℕ → Step → Type 0
Admitted i k (idle_link l) = IdleLink i l
Admitted i k (dominated_link l h) = DominatedLink i l h
Admitted i k (unit_road l p) = (1 ≤ k) × UnitRoad i l p
Admitted i k (dominated_pair q r) = DominatedPair i q r
Admitted i k (common_factor r qs) = CommonFactor i k r qs
Admitted i k (overloaded_link l qs) = (1 ≤ k) × OverloadedLink i k l qs
Admitted i k (disjoint_pairs qs) = DisjointPairs i k qs

abbrev pub is_admitted : Instance → ℕ → Step → Bool
is_admitted i k (idle_link l) = is_idle_link i l
is_admitted i k (dominated_link l h) = is_dominated_link i l h
is_admitted i k (unit_road l p) = nat_le 1 k && is_unit_road i l p
is_admitted i k (dominated_pair q r) = is_dominated_pair i q r
is_admitted i k (common_factor r qs) = is_common_factor i k r qs
is_admitted i k (overloaded_link l qs) = nat_le 1 k && is_overloaded_link i k l qs
is_admitted i k (disjoint_pairs qs) = is_disjoint_pairs i k qs

abbrev pub after : Instance → Step → Instance
after i (idle_link l) = weld_link i l
after i (dominated_link l h) = weld_link i l
after i (unit_road l p) = cut_link i l
after i (dominated_pair q r) = drop_pair i r
after i (common_factor r qs) = drop_pair i r
after i (overloaded_link l qs) = cut_link i l
after i (disjoint_pairs qs) = i

abbrev pub left_after : ℕ → Step → ℕ
left_after k (idle_link l) = k
left_after k (dominated_link l h) = k
left_after k (unit_road l p) = k - 1
left_after k (dominated_pair q r) = k
left_after k (common_factor r qs) = k
left_after k (overloaded_link l qs) = k - 1
left_after k (disjoint_pairs qs) = k

abbrev pub cut_by : Step → Links
cut_by (idle_link l) = none
cut_by (dominated_link l h) = none
cut_by (unit_road l p) = one l
cut_by (dominated_pair q r) = none
cut_by (common_factor r qs) = none
cut_by (overloaded_link l qs) = one l
cut_by (disjoint_pairs qs) = none

abbrev pub cost_of : Step → ℕ
cost_of (idle_link l) = 0
cost_of (dominated_link l h) = 0
cost_of (unit_road l p) = 1
cost_of (dominated_pair q r) = 0
cost_of (common_factor r qs) = 0
cost_of (overloaded_link l qs) = 1
cost_of (disjoint_pairs qs) = 0

-- Each admitted step loses nothing.
--     disjoint_no_cut    k + 1 pairs that share no link are not parted by k links
--     step_reduces       an admitted step reduces
--     step_decided       whether a step is admitted is decided by its test
use Rattle.std.proofs.Common.{ℕ, ◌≤◌, leb, List, Decides, arith}
use Rattle.std.proofs.lemmas.Bool.{le-leb, leb-true}
use Rattle.std.proofs.lemmas.Bool.Decides.{Decides-and}
use Rattle.cuts.proofs.Bound.{disjoint_bound}
use Rattle.cuts.proofs.CommonFactor.{common_factor_reduces}
use Rattle.cuts.proofs.Composing.{same_reduces}
use Rattle.cuts.proofs.Cutting.{overloaded_link_reduces, unit_road_reduces}
use Rattle.cuts.proofs.Dropping.{dominated_pair_reduces}
use Rattle.cuts.proofs.RuleTests.{common_factor_decided, disjoint_pairs_decided, dominated_link_decided, dominated_pair_decided, idle_link_decided, overloaded_link_decided, unit_road_decided}
use Rattle.cuts.proofs.Welding.{dominated_link_reduces, idle_link_reduces}
use Rattle.cuts.specs.Instances.{Instance, Sound, HasCut}
use Rattle.cuts.specs.Reduces.{Reduces}
use Rattle.cuts.specs.Rules.{DisjointPairs}
use Rattle.cuts.specs.Steps.{Admitted, Step, after, cut_by, is_admitted, left_after, idle_link, dominated_link, unit_road, dominated_pair, common_factor, overloaded_link, disjoint_pairs}
use Rattle.cuts.specs.Tests.{is_overloaded_link, is_unit_road}

pub disjoint_no_cut : (i : Instance) → Sound i → (k : ℕ) (qs : List ℕ) → DisjointPairs i k qs → HasCut i k → ⊥
disjoint_no_cut i ok k qs disjoint (s, w) =
    omega (arith, disjoint_bound i ok s w.cut qs disjoint.crowd.opened disjoint.shared, w.small, disjoint.crowd.many)

pub step_reduces : (i : Instance) → Sound i → (k : ℕ) (s : Step) → Admitted i k s → Reduces i k (after i s) (left_after k s) (cut_by s)
step_reduces i ok k (idle_link l) h = idle_link_reduces i ok k l h
step_reduces i ok k (dominated_link l d) h = dominated_link_reduces i ok k l d h
step_reduces i ok k (unit_road l p) (some, h) = unit_road_reduces i ok k l p some h
step_reduces i ok k (dominated_pair q r) h = dominated_pair_reduces i ok k q r h
step_reduces i ok k (common_factor r qs) h = common_factor_reduces i ok k r qs h
step_reduces i ok k (overloaded_link l qs) (some, h) = overloaded_link_reduces i ok k l qs some h
step_reduces i ok k (disjoint_pairs qs) h = same_reduces i ok k

decides_leb : (a b : ℕ) → Decides (leb a b) (a ≤ b)
decides_leb a b = (leb-true a b, le-leb a b)

pub step_decided : (i : Instance) → Sound i → (k : ℕ) (s : Step) → Decides (is_admitted i k s) (Admitted i k s)
step_decided i ok k (idle_link l) = idle_link_decided i ok l
step_decided i ok k (dominated_link l h) = dominated_link_decided i ok l h
step_decided i ok k (unit_road l p) = Decides-and (leb 1 k) (is_unit_road i l p) (decides_leb 1 k) (unit_road_decided i ok l p)
step_decided i ok k (dominated_pair q r) = dominated_pair_decided i ok q r
step_decided i ok k (common_factor r qs) = common_factor_decided i ok k r qs
step_decided i ok k (overloaded_link l qs) =
    Decides-and (leb 1 k) (is_overloaded_link i k l qs) (decides_leb 1 k) (overloaded_link_decided i ok k l qs)
step_decided i ok k (disjoint_pairs qs) = disjoint_pairs_decided i ok k qs

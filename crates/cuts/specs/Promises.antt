-- What is proved of cuts. Each statement is the contract of one public function.
--     ..Bound                 how many links a set that parts certain pairs has at least
--     ..LosesNothing          a rule, where it applies, reduces the instance with what is left: see Reduces
--     ..Decided               a rule's test is true just when the rule applies
--     Runs.., Reductions..    the same of many steps
--     Fewest.., Search..      the fewest links of a cut
use Rattle.std.specs.Prelude.{◌≡◌, ℕ, ◌+◌, ◌-◌, ◌≤◌, List, length, Decides}
use Rattle.std.specs.List.{AllByRecursion}
use Rattle.cuts.specs.After.{cut_link, drop_pair, weld_link}
use Rattle.cuts.specs.Instances.{Instance, Open, Sound, Met, Cut, HasCut, Fewest, NoEmptyRoad, size}
use Rattle.cuts.specs.Links.{Links, Outside, none, one, union}
use Rattle.cuts.specs.Reduces.{Reduces}
use Rattle.cuts.specs.Rules.{IdleLink, DominatedLink, UnitRoad, DominatedPair, CommonFactor, OverloadedLink, DisjointPairs, Never, Pairwise, Share}
use Rattle.cuts.specs.Runs.{AllAdmitted, Faithful, Run, after_all, cost_of_all, cut_by_all, left_after_all}
use Rattle.cuts.specs.Search.{has_cut}
use Rattle.cuts.specs.Steps.{Admitted, Step, after, cut_by, is_admitted, left_after}
use Rattle.cuts.specs.Tests.{is_common_factor, is_disjoint_pairs, is_dominated_link, is_dominated_pair, is_idle_link, is_overloaded_link, is_unit_road}

-- Pairs that a set meets, no two of which share a link of the set, are at most as many as the set has links.
-- (They are different of themselves: a pair that stands twice would share the link that meets it.)
abbrev pub MetPairsBound : Type 0
MetPairsBound =
    (i : Instance) → Sound i → (s : Links) (qs : List ℕ) →
    AllByRecursion (Met i s) qs → Pairwise (Share i (Outside s)) qs → length qs ≤ size i s

-- Open pairs that share no link are at most as many as any cut has links.
abbrev pub DisjointPairsBound : Type 0
DisjointPairsBound =
    (i : Instance) → Sound i → (s : Links) → Cut i s → (qs : List ℕ) →
    AllByRecursion (Open i) qs → Pairwise (Share i Never) qs → length qs ≤ size i s

-- The seven rules; k is what is left before the step.
abbrev pub IdleLinkLosesNothing : Type 0
IdleLinkLosesNothing = (i : Instance) → Sound i → (k l : ℕ) → IdleLink i l → Reduces i k (weld_link i l) k none

abbrev pub DominatedLinkLosesNothing : Type 0
DominatedLinkLosesNothing = (i : Instance) → Sound i → (k l h : ℕ) → DominatedLink i l h → Reduces i k (weld_link i l) k none

abbrev pub UnitRoadLosesNothing : Type 0
UnitRoadLosesNothing =
    (i : Instance) → Sound i → (k l p : ℕ) → 1 ≤ k → UnitRoad i l p → Reduces i k (cut_link i l) (k - 1) (one l)

abbrev pub DominatedPairLosesNothing : Type 0
DominatedPairLosesNothing = (i : Instance) → Sound i → (k q r : ℕ) → DominatedPair i q r → Reduces i k (drop_pair i r) k none

abbrev pub CommonFactorLosesNothing : Type 0
CommonFactorLosesNothing =
    (i : Instance) → Sound i → (k r : ℕ) (qs : List ℕ) → CommonFactor i k r qs → Reduces i k (drop_pair i r) k none

abbrev pub OverloadedLinkLosesNothing : Type 0
OverloadedLinkLosesNothing =
    (i : Instance) → Sound i → (k l : ℕ) (qs : List ℕ) → 1 ≤ k → OverloadedLink i k l qs →
    Reduces i k (cut_link i l) (k - 1) (one l)

abbrev pub DisjointPairsLeaveNoCut : Type 0
DisjointPairsLeaveNoCut = (i : Instance) → Sound i → (k : ℕ) (qs : List ℕ) → DisjointPairs i k qs → HasCut i k → ⊥

-- The rules' tests.
abbrev pub IdleLinkDecided : Type 0
IdleLinkDecided = (i : Instance) → Sound i → (l : ℕ) → Decides (is_idle_link i l) (IdleLink i l)

abbrev pub DominatedLinkDecided : Type 0
DominatedLinkDecided = (i : Instance) → Sound i → (l h : ℕ) → Decides (is_dominated_link i l h) (DominatedLink i l h)

abbrev pub UnitRoadDecided : Type 0
UnitRoadDecided = (i : Instance) → Sound i → (l p : ℕ) → Decides (is_unit_road i l p) (UnitRoad i l p)

abbrev pub DominatedPairDecided : Type 0
DominatedPairDecided = (i : Instance) → Sound i → (q r : ℕ) → Decides (is_dominated_pair i q r) (DominatedPair i q r)

abbrev pub CommonFactorDecided : Type 0
CommonFactorDecided =
    (i : Instance) → Sound i → (k r : ℕ) (qs : List ℕ) → Decides (is_common_factor i k r qs) (CommonFactor i k r qs)

abbrev pub OverloadedLinkDecided : Type 0
OverloadedLinkDecided =
    (i : Instance) → Sound i → (k l : ℕ) (qs : List ℕ) → Decides (is_overloaded_link i k l qs) (OverloadedLink i k l qs)

abbrev pub DisjointPairsDecided : Type 0
DisjointPairsDecided = (i : Instance) → Sound i → (k : ℕ) (qs : List ℕ) → Decides (is_disjoint_pairs i k qs) (DisjointPairs i k qs)

abbrev pub StepsDecided : Type 0
StepsDecided = (i : Instance) → Sound i → (k : ℕ) (s : Step) → Decides (is_admitted i k s) (Admitted i k s)

-- Many steps.
abbrev pub StepsLoseNothing : Type 0
StepsLoseNothing = (i : Instance) → Sound i → (k : ℕ) (s : Step) → Admitted i k s → Reduces i k (after i s) (left_after k s) (cut_by s)

abbrev pub ReductionsCompose : Type 0
ReductionsCompose =
    (i j m : Instance) (b k d : ℕ) (c e : Links) → Reduces i b j k c → Reduces j k m d e → Reduces i b m d (union c e)

abbrev pub ReductionsAreFaithful : Type 0
ReductionsAreFaithful =
    (i : Instance) → Sound i → (b : ℕ) (j : Instance) (k : ℕ) (c : Links) → Reduces i b j k c → Faithful i b j k c

abbrev pub ListedStepsRun : Type 0
ListedStepsRun =
    (i : Instance) (b : ℕ) (ss : List Step) → AllAdmitted i b ss → Run i b (after_all i ss) (left_after_all b ss) (cut_by_all ss)

-- What is left and what was cut make up the budget, and no link is cut twice: there are as many as steps that cut.
abbrev pub ListedStepsAddUp : Type 0
ListedStepsAddUp =
    (i : Instance) → Sound i → (b : ℕ) (ss : List Step) → AllAdmitted i b ss →
    (left_after_all b ss + cost_of_all ss ≡ b) × (size i (cut_by_all ss) ≡ cost_of_all ss)

abbrev pub RunsLoseNothing : Type 0
RunsLoseNothing = (i : Instance) → Sound i → (b : ℕ) (j : Instance) (k : ℕ) (c : Links) → Run i b j k c → Reduces i b j k c

abbrev pub RunsAreFaithful : Type 0
RunsAreFaithful = (i : Instance) → Sound i → (b : ℕ) (j : Instance) (k : ℕ) (c : Links) → Run i b j k c → Faithful i b j k c

abbrev pub RunsLeaveNoEmptyRoad : Type 0
RunsLeaveNoEmptyRoad =
    (i : Instance) → Sound i → NoEmptyRoad i → (b : ℕ) (j : Instance) (k : ℕ) (c : Links) → Run i b j k c → NoEmptyRoad j

-- A run that comes to disjoint pairs shows that the start had no cut within its budget.
abbrev pub RunsToDisjointPairs : Type 0
RunsToDisjointPairs =
    (i : Instance) → Sound i → (b : ℕ) (j : Instance) (k : ℕ) (c : Links) → Run i b j k c →
    (qs : List ℕ) → DisjointPairs j k qs → HasCut i b → ⊥

-- The fewest links of a cut.
abbrev pub SearchDecides : Type 0
SearchDecides = (i : Instance) → Sound i → (k : ℕ) → Decides (has_cut i k) (HasCut i k)

abbrev pub FewestIsFound : Type 0
FewestIsFound = (i : Instance) → Sound i → (k : ℕ) → HasCut i k → (n : ℕ) × Fewest i n × (n ≤ k)

abbrev pub FewestIsUnique : Type 0
FewestIsUnique = (i : Instance) (m n : ℕ) → Fewest i m → Fewest i n → m ≡ n

-- When a book tells a plan, and what is true of every book that does.
--     Tells m p            links 1 to n - 1 are live, the pairs of p are open, and each has the plan's rank and legs; said
--                          point by point, and nothing is asked beyond them
--     PlanCut p s          a cut of the plan itself: a set of its links that meets the road of each of its pairs
--     TellersCutAlike      the cuts of a lawful book that tells a plan are the plan's own
--     TellersHaveRoads     no open road of such a book is empty
use Rattle.std.specs.Prelude.{◌≡◌, ℕ, ◌-◌, ◌<◌, true, ◌||◌, List}
use Rattle.cuts.specs.Instances.{Cut, NoEmptyRoad}
use Rattle.cuts.specs.Links.{In, Links}
use Rattle.plan.specs.Plans.{broader_of, ends_of}
use Rattle.plan.specs.Tree.{among, leg, rank}
use Rattle.plan.specs.declared.shape.Plan.{Plan}
use Rattle.book.specs.Meaning.{Lawful, Meaning}
use Rattle.book.specs.Posed.{posed}

-- the two legs of a pair of a plan, and its rank
abbrev pub plan_first : Plan → ℕ → List ℕ
plan_first p q = leg (broader_of p) (ends_of p q).0 (ends_of p q).1

abbrev pub plan_second : Plan → ℕ → List ℕ
plan_second p q = leg (broader_of p) (ends_of p q).1 (ends_of p q).0

abbrev pub plan_rank : Plan → ℕ → ℕ
plan_rank p q = rank (broader_of p) (ends_of p q).0 (ends_of p q).1

pub record Tells (m : Meaning) (p : Plan) : Type 0 where
  pub highest : m.highest ≡ p.terms - 1
  pub pairs : m.pairs ≡ p.pairs
  pub live : (l : ℕ) → 0 < l → l < p.terms → m.live l ≡ true
  pub opened : (q : ℕ) → q < p.pairs → m.opened q ≡ true
  pub ranks : (q : ℕ) → q < p.pairs → m.rank q ≡ plan_rank p q
  pub firsts : (q : ℕ) → q < p.pairs → m.first q ≡ plan_first p q
  pub seconds : (q : ℕ) → q < p.pairs → m.second q ≡ plan_second p q

pub record PlanCut (p : Plan) (s : Links) : Type 0 where
  pub inside : (l : ℕ) → In s l → (0 < l) × (l < p.terms)
  pub meets : (q : ℕ) → q < p.pairs → (l : ℕ) × In s l × ((among l (plan_first p q) || among l (plan_second p q)) ≡ true)

abbrev pub TellersCutAlike : Type 0
TellersCutAlike = (m : Meaning) → Lawful m → (p : Plan) → Tells m p → (s : Links) → (Cut (posed m) s → PlanCut p s) × (PlanCut p s → Cut (posed m) s)

abbrev pub TellersHaveRoads : Type 0
TellersHaveRoads = (m : Meaning) → Lawful m → (p : Plan) → Tells m p → NoEmptyRoad (posed m)

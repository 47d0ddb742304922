use Rattle.std.proofs.Common.{◌≡◌}
use Rattle.plan.specs.Plans.{broader_of}
use Rattle.plan.specs.Tree.{among, way}
use Rattle.plan.proofs.shape.Plan.is_above.Given as goal

abbrev pub invariant-loop-higher : goal.invariant-loop-higher
invariant-loop-higher l = let up = broader_of l.self in among l.link (way up l.higher) ≡ among l.link (way up l.term)

abbrev pub decreases-loop-higher : goal.decreases-loop-higher
decreases-loop-higher l = l.higher

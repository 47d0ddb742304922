use Rattle.std.proofs.Common.{◌≡◌, ◌+◌}
use Rattle.plan.specs.Plans.{broader_of}
use Rattle.plan.specs.Tree.{rank}
use Rattle.plan.proofs.shape.Plan.rank.Given as goal

abbrev pub invariant-loop-s : goal.invariant-loop-s
invariant-loop-s l = let up = broader_of l.self in rank up l.s l.t ≡ rank up l.a l.b

abbrev pub decreases-loop-s : goal.decreases-loop-s
decreases-loop-s l = l.s + l.t

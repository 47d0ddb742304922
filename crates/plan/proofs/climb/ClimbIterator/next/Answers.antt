use Rattle.std.proofs.Common.{◌≡◌, ap, ◌∙◌, arith}
use Rattle.plan.specs.Plans.{broader_of}
use Rattle.plan.specs.Tree.{links_up}
use Rattle.plan.proofs.Climbs.{climb_on, climb_root, plan_falls}
use Rattle.plan.proofs.climb.ClimbIterator.next.Goals as goal

pub returns-then-link-eq0-clause-steps : goal.returns-then-link-eq0-clause-steps
returns-then-link-eq0-clause-steps c =
    let p = c.args.self.now.plan.now in
    let root : c.args.self.now.at ≡ 0 = omega (arith, c.if-link-eq0.true) in
    let none = ap (links_up (broader_of p)) root ∙ climb_root (broader_of p) (plan_falls p) in
    (none, none)

pub returns-clause-steps : goal.returns-clause-steps
returns-clause-steps c =
    let p = c.args.self.now.plan.now in
    climb_on (broader_of p) (plan_falls p) c.args.self.now.at _ c.broader-self.result (omega arith) (omega (arith, c.if-link-eq0.false)) c.broader-self.ensures.value

use Rattle.std.proofs.Common.{◌<◌, sym, ap, ◌∙◌, arith}
use Rattle.std.proofs.lemmas.Bool.{ne_eqb}
use Rattle.plan.specs.Plans.{broader_of}
use Rattle.plan.specs.Tree.{among, way}
use Rattle.plan.proofs.Climbs.{above_climb, above_here, above_past, plan_falls}
use Rattle.plan.proofs.shape.Plan.is_above.Goals as goal

pub loop-higher-preserved : goal.loop-higher-preserved
loop-higher-preserved c =
    let p = c.args.self.now in
    let up = broader_of p in
    let x = c.args.link in
    ap (λ t. among x (way up t)) c.broader-higher.ensures.value ∙ sym (above_climb up (plan_falls p) x c.loop-higher.higher c.loop-higher-test.true) ∙ c.loop-higher.invariant

pub returns-then-higher-link : goal.returns-then-higher-link
returns-then-higher-link c =
    let p = c.args.self.now in
    let up = broader_of p in
    let x = c.args.link in
    sym (above_here up (plan_falls p) x) ∙ ap (λ t. among x (way up t)) (sym c.if-higher-link.true) ∙ c.loop-higher.invariant

pub returns-else-higher-link : goal.returns-else-higher-link
returns-else-higher-link c =
    let p = c.args.self.now in
    let up = broader_of p in
    let x = c.args.link in
    let ne = c.if-higher-link.false in
    let less : c.loop-higher.higher < x = omega (arith, ne) in
    ne_eqb c.loop-higher.higher x ne ∙ sym (above_past up (plan_falls p) x c.loop-higher.higher less) ∙ c.loop-higher.invariant

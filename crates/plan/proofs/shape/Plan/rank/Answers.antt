use Rattle.std.proofs.Common.{◌<◌, sym, ap, ◌∙◌, arith}
use Rattle.plan.specs.Plans.{broader_of}
use Rattle.plan.specs.Tree.{rank}
use Rattle.plan.proofs.Climbs.{plan_falls}
use Rattle.plan.proofs.Roads.{rank_climb, rank_comm, rank_self}
use Rattle.plan.proofs.shape.Plan.rank.Goals as goal

pub loop-s-preserved-then-s-t : goal.loop-s-preserved-then-s-t
loop-s-preserved-then-s-t c =
    let p = c.args.self.now in
    let up = broader_of p in
    let s = c.loop-s.s in
    let t = c.loop-s.t in
    ap (rank up s) c.broader-t.ensures.value ∙ sym (rank_climb up (plan_falls p) s t c.if-s-t.true) ∙ c.loop-s.invariant

pub loop-s-preserved : goal.loop-s-preserved
loop-s-preserved c =
    let p = c.args.self.now in
    let up = broader_of p in
    let s = c.loop-s.s in
    let t = c.loop-s.t in
    let ne = c.loop-s-test.true in
    let less : t < s = omega (arith, ne) in
    ap (λ x. rank up x t) c.broader-s.ensures.value ∙ rank_comm up (plan_falls p) (up s) t ∙ sym (rank_climb up (plan_falls p) t s less) ∙ sym (rank_comm up (plan_falls p) s t) ∙ c.loop-s.invariant

pub returns : goal.returns
returns c =
    let up = broader_of c.args.self.now in
    let s = c.loop-s.s in
    c.depth.ensures.value ∙ sym (rank_self up s) ∙ ap (rank up s) c.loop-s-test.false ∙ c.loop-s.invariant

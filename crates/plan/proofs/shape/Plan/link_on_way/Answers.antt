use Rattle.std.proofs.Common.{◌≡◌, ◌-◌, length, sym, ap, ◌∙◌, arith}
use Rattle.std.specs.List.{slice_get}
use Rattle.std.proofs.lemmas.Iterator.Adapters.{option_map_id}
use Rattle.std.proofs.lemmas.Iterator.Consumers.{nth_from_yields_List}
use Rattle.plan.specs.Plans.{broader_of}
use Rattle.plan.specs.Tree.{links_up, way}
use Rattle.plan.proofs.Climbs.{climb_place, climb_yields, plan_falls}
use Rattle.plan.proofs.shape.Plan.link_on_way.Goals as goal

pub returns : goal.returns
returns c =
    let p = c.args.self.now in
    let up = broader_of p in
    let w = way up c.args.term in
    let deep = c.depth-depth.ensures.value in
    let n : c.from.result ≡ length w - 1 - c.args.place = omega (arith, deep, c.from.ensures) in
    let found = nth_from_yields_List c.nth.result c.nth.new.self c.from.result c.nth.ensures.ran (climb_yields p c.args.term c.new.ensures.plan c.new.ensures.term) in
    sym (option_map_id _) ∙ found ∙ ap (slice_get (links_up up c.args.term)) n ∙ climb_place up (plan_falls p) c.args.term c.args.place (omega (arith, deep, c.if-place-depth.false))

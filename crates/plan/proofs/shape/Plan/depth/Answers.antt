use Rattle.std.proofs.Common.{◌∙◌}
use Rattle.std.proofs.lemmas.Iterator.Consumers.{count_from_yields_List}
use Rattle.std.proofs.lemmas.List.{length-reverse}
use Rattle.plan.specs.Plans.{broader_of}
use Rattle.plan.specs.Tree.{way}
use Rattle.plan.proofs.Climbs.{climb_yields}
use Rattle.plan.proofs.shape.Plan.depth.Goals as goal

pub returns-clause-value : goal.returns-clause-value
returns-clause-value c =
    let p = c.args.self.now in
    count_from_yields_List c.new.result c.count.result c.count.ensures.ran (climb_yields p c.args.term c.new.ensures.plan c.new.ensures.term) ∙ length-reverse (way (broader_of p) c.args.term)

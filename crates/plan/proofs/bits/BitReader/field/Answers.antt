use Rattle.std.proofs.Common.{◌+◌, refl, rules, ◌∙◌, arith}
use Rattle.std.proofs.lemmas.Iterator.{YieldsList-from_range}
use Rattle.std.proofs.lemmas.Iterator.Consumers.{fold_from_yields_List}
use Rattle.plan.proofs.Fields.{field_folds, take_bit}
use Rattle.plan.proofs.bits.BitReader.field.Goals as goal

pub returns-clause-value : goal.returns-clause-value
returns-clause-value c =
    let bs = c.args.self.now.bytes.now in
    let at = c.args.self.now.at in
    let w = c.args.width in
    let folded = fold_from_yields_List _ (take_bit bs) 0 c.fold-value.result c.fold-value.ensures.ran (YieldsList-from_range at (at + w) w refl (omega arith)) (λ a x b q k. search rules) in
    (folded ∙ field_folds bs at w c.requires.narrow, refl, c.in_ok-reach.ensures)

use Rattle.std.proofs.Common.{rules}
use Rattle.book.specs.Sheets.{first_test, road_test}
use Rattle.book.proofs.sheet.Sheet.new.Goals as goal

pub invariant_of-result-clause-filled : goal.invariant_of-result-clause-filled
invariant_of-result-clause-filled c = c.fill.ensures (road_test c.args.plan.now) (λ q l b hq hl r. search rules)

pub invariant_of-result-clause-sided : goal.invariant_of-result-clause-sided
invariant_of-result-clause-sided c = c.fill-2.ensures (first_test c.args.plan.now) (λ q l b hq hl r. search rules)

use Rattle.std.proofs.Common.{◌≡◌, ap, ◌∙◌, inl}
use Rattle.std.proofs.lemmas.Result.{IfOk-weaker}
use Rattle.book.specs.Told.{told}
use Rattle.working.specs.Marking.{fresh}
use Rattle.lines.specs.Lines.{lines_of}
use Rattle.lines.specs.Printed.{run_said}
use Rattle.lines.proofs.marking.mark.Goals as goal

pub returns : goal.returns
returns c =
    let p = c.read.new.self in
    let ls = lines_of c.args.input.now in
    let laid = c.lay-working.ensures in
    let plan : c.lay-working.result.book.now.plan ≡ p = ap (λ b. b.plan) laid.keeps ∙ c.new-sheet.ensures.keeps in
    let tally : c.lay-working.result.tally ≡ fresh p.budget = laid.tallies ∙ ap fresh c.budget.ensures in
    IfOk-weaker c.mark_lines.result _ _
    (λ s e. inl (p, c.in_default.ensures, e ∙ ap (λ q. run_said (told q) c.lay-working.result.tally 1 ls) plan ∙ ap (λ t. run_said (told p) t 1 ls) tally))
    c.mark_lines.ensures

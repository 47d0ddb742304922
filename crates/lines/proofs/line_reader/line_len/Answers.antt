use Rattle.std.proofs.Common.{◌≡◌, true, false, rules, sym, ◌∙◌}
use borrow.Author.Tests.{tests}
use Rattle.std.proofs.lemmas.Iterator.{IsFirst-from_position, YieldsList-from_slice}
use Rattle.lines.specs.Lines.{is_newline}
use Rattle.lines.proofs.Splits.{first_newline}
use Rattle.lines.proofs.line_reader.line_len.Goals as goal

pub returns-clause-first : goal.returns-clause-first
returns-clause-first c =
    c.unwrap_or.ensures ∙
    sym (first_newline c.args.text.now c.position.result
    (IsFirst-from_position _ _ c.position.result (λ b. is_newline b ≡ true) (λ b. is_newline b ≡ false) c.position.ensures.ran (YieldsList-from_slice c.args.text.now (cc)) (λ x q k. search (rules, tests)) (λ x q k. search (rules, tests))))

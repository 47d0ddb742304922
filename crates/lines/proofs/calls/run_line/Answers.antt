use Rattle.std.proofs.Common.{◌≤◌, length, Some, vec_items, sym, refl, ap, ◌∙◌, subst, rules}
use Rattle.std.specs.Option.{option_map}
use Rattle.lines.specs.Calls.{call_judged, LineOutcome}
use Rattle.lines.proofs.Letters.{step_in_lem}
use Rattle.lines.proofs.calls.run_line.Goals as goal

pub returns-in_default-2 : goal.returns-in_default-2
returns-in_default-2 g c =
    let bs = c.args.bytes.now in
    let m = g.B.RoadBook.meaning c.args.working.now.book.now in
    let t = c.args.working.now.tally in
    let some : 1 ≤ length bs = search rules in
    let e = step_in_lem bs _ some (sym (ap (option_map vec_items) c.in_default-2.is) ∙ c.in_ok-numbers.ensures) in
    record { outcome = (ap (call_judged m t c.args.line) e, refl); keeps = refl }

pub returns : goal.returns
returns g c =
    let bs = c.args.bytes.now in
    let m = g.B.RoadBook.meaning c.args.working.now.book.now in
    let t = c.args.working.now.tally in
    let some : 1 ≤ length bs = search rules in
    let e = step_in_lem bs _ some (ap Some c.as_slice.ensures.value ∙ sym (ap (option_map vec_items) c.in-Some.is) ∙ c.in_ok-numbers.ensures) in
    record {
      outcome = subst (λ s. LineOutcome (call_judged m t c.args.line s) t c.call.result c.call.new.working.tally) (sym e) c.call.ensures.outcome;
      keeps = c.call.ensures.keeps;
    }

use Rattle.std.proofs.Common.{◌≡◌, ◌+◌, ◌++◌, drop, string_bytes, rules, ap, ◌∙◌, subst}
use Rattle.std.specs.Iterator.Adapters.{enumerate_count, enumerate_source}
use Rattle.lines.specs.Calls.{line_judged, tally_after}
use Rattle.lines.specs.Lines.{lines_of}
use Rattle.lines.specs.Printed.{line_said, run_said}
use Rattle.lines.specs.Reading.{lines_left}
use Rattle.lines.specs.Said.{said_text}
use Rattle.lines.proofs.Runs.{run_all, run_more}
use Rattle.lines.proofs.marking.mark_lines.Goals as goal

pub loop-i-init : goal.loop-i-init
loop-i-init g c =
    let m = g.B.RoadBook.meaning c.args.working.now.book.now in
    let t = c.args.working.now.tally in
    let it = c.into_iter-i-iterator.result in
    let from : enumerate_source it ≡ c.new.result = search rules in
    let first : enumerate_count it ≡ 0 = search rules in
    let (text, place) = c.new.ensures in (
      search rules,
      search rules,
      search rules,
      ap (λ bs. bs ++ run_said m t (enumerate_count it + 1) (lines_left (enumerate_source it))) c.new-out.ensures.bytes ∙
          ap (λ n. run_said m t (n + 1) (lines_left (enumerate_source it))) first ∙
          ap (λ r. run_said m t 1 (lines_left r)) from ∙
          ap (λ i. run_said m t 1 (lines_of (drop i c.new.result.text.now))) place ∙
          ap (λ bs. run_said m t 1 (lines_of bs)) text,
    )

pub loop-i-preserved : goal.loop-i-preserved
loop-i-preserved g c =
    let meant = g.B.RoadBook.meaning in
    let same = c.loop-i.invariant.2 in
    let m = meant c.args.working.now.book.now in
    let t = c.loop-i.working.tally in
    let it = c.loop-i.i-iterator in
    let l = c.in-Some.bytes.now in
    let (split, here, next, fits) = c.in-Some.ensures.steps in
    let ran = c.in_ok-said.ensures in
    let n = enumerate_count it + 1 in
    let said : said_text c.in_ok-said.said ≡ line_said n (line_judged m t n l) =
    subst (λ b. said_text c.in_ok-said.said ≡ line_said n (line_judged (meant b.now) t n l)) same
    (subst (λ i. said_text c.in_ok-said.said ≡ line_said (i + 1) (line_judged (meant c.loop-i.working.book.now) t (i + 1) l)) here ran.said.0) in
    let left : c.mark_line.new.working.tally ≡ tally_after (line_judged m t n l) t =
    subst (λ b. c.mark_line.new.working.tally ≡ tally_after (line_judged (meant b.now) t n l) t) same
    (subst (λ i. c.mark_line.new.working.tally ≡ tally_after (line_judged (meant c.loop-i.working.book.now) t (i + 1) l) t) here ran.said.1) in (
      search rules,
      search rules,
      ran.keeps ∙ same,
      ap (λ i. string_bytes c.write.new.self ++ run_said m c.mark_line.new.working.tally (i + 1) (lines_left (enumerate_source c.next.new.self))) next ∙
          run_more m t n (string_bytes c.loop-i.out) _ _ l (lines_left (enumerate_source c.next.new.self)) _ (string_bytes c.write.new.self) _
          c.loop-i.invariant.3 split said left c.in_ok-write.ensures.bytes,
    )

pub returns : goal.returns
returns g c =
    let m = g.B.RoadBook.meaning c.args.working.now.book.now in
    let it = c.loop-i.i-iterator in
    run_all m c.loop-i.working.tally (enumerate_count it + 1) (string_bytes c.loop-i.out) _ (lines_left (enumerate_source it)) c.loop-i.invariant.3 c.in-None.ensures.steps.0.0

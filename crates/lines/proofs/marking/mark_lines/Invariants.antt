use Rattle.std.proofs.Common.{◌≡◌, ◌+◌, ◌++◌, string_bytes}
use Rattle.std.specs.Iterator.Adapters.{enumerate_count, enumerate_source}
use Rattle.lines.specs.Lines.{lines_of}
use Rattle.lines.specs.Printed.{run_said}
use Rattle.lines.specs.Reading.{lines_left}
use Rattle.lines.proofs.marking.mark_lines.Given as goal

abbrev pub invariant-loop-i : goal.invariant-loop-i
invariant-loop-i g l =
    let m = g.B.RoadBook.meaning l.initial.working.book.now in
    let it = l.i-iterator in
    let left = lines_left (enumerate_source it) in
    (goal.iterator-loop-i g).can_next it × (goal.iterator-loop-i g).is_finite it ×
    (l.working.book ≡ l.initial.working.book) ×
    (string_bytes l.out ++ run_said m l.working.tally (enumerate_count it + 1) left ≡ run_said m l.initial.working.tally 1 (lines_of l.input))

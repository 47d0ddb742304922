use Rattle.std.proofs.Common.{◌≡◌}
use Rattle.book.specs.Posed.{posed}
use Rattle.working.specs.Marking.{drop_where}
use Rattle.working.specs.Rest.{rest}
use Rattle.working.proofs.working.Working.cut.Given as goal

abbrev pub invariant-loop-pair : goal.invariant-loop-pair
invariant-loop-pair g l =
    let i = posed (rest (g.B.RoadBook.meaning l.self.book.now) l.self.tally) in
    l.dropped ≡ drop_where (i.on l.link) l.pair l.self.tally.dropped

use Rattle.std.proofs.Common.{arith}
use Rattle.book.specs.Meaning.{leg_of}
use Rattle.rough.proofs.Marking.{held_top, top_stands}
use Rattle.rough.proofs.run.choose_top.Goals as goal

pub bounds-chosen-link : goal.bounds-chosen-link
bounds-chosen-link g c =
    let b = c.args.book.now in
    (top_stands (g.B.RoadBook.meaning b) (g.B.RoadBook.lawful b) c.args.leg c.args.pair c.in-Some.link c.requires c.in-Some.ensures).1

pub returns-in-Some : goal.returns-in-Some
returns-in-Some g c =
    let b = c.args.book.now in
    let m = g.B.RoadBook.meaning b in
    let (at, low) = top_stands m (g.B.RoadBook.lawful b) c.args.leg c.args.pair c.in-Some.link c.requires c.in-Some.ensures in
    held_top c.args.chosen.now c.in-Some.link (omega (arith, c.told-chosen, low)) (leg_of m c.args.leg c.args.pair) at

use Rattle.std.proofs.Common.{true, set, sym, ap, ◌∙◌}
use Rattle.book.specs.Posed.{posed}
use Rattle.working.specs.Rest.{rest}
use Rattle.working.proofs.Drops.{drop_more, drop_past}
use Rattle.working.proofs.working.Working.cut.Goals as goal
use Rattle.working.proofs.working.Working.cut.Goals.{else-on_road, then-on_road}

pub loop-pair-preserved : goal.loop-pair-preserved
loop-pair-preserved g c =
    let i = posed (rest (g.B.RoadBook.meaning c.args.self.now.book.now) c.args.self.now.tally) in
    let f = i.on c.args.link in
    let p = c.loop-pair.pair in
    let ds = c.args.self.now.tally.dropped in
    elim c.if-on_road.branch [
      | then-on_road w ↦ w.dropped-is ∙ ap (λ xs. set xs p true) c.loop-pair.invariant ∙ sym (drop_more f p ds (sym w.if-on_road.ensures))
      | else-on_road w ↦ w.dropped-is ∙ c.loop-pair.invariant ∙ sym (drop_past f p ds (sym w.if-on_road.ensures))
    ]

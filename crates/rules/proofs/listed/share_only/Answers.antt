use Rattle.std.proofs.Common.{sym}
use Rattle.book.specs.Posed.{posed}
use Rattle.rules.specs.Sharing.{share_only}
use Rattle.rules.proofs.Fronts.{pairwise_fails, pairwise_more}
use Rattle.rules.proofs.listed.share_only.Goals as goal

pub returns-then-not-each_shares_only : goal.returns-then-not-each_shares_only
returns-then-not-each_shares_only g c =
    let f = share_only (posed (g.B.RoadBook.meaning c.args.book.now)) c.args.common in
    sym (pairwise_fails f c.args.pairs.now c.loop-i.i c.loop-i-test.true (sym c.if-not-each_shares_only.ensures))

pub loop-i-preserved : goal.loop-i-preserved
loop-i-preserved g c =
    let f = share_only (posed (g.B.RoadBook.meaning c.args.book.now)) c.args.common in
    pairwise_more f c.args.pairs.now c.loop-i.i c.loop-i-test.true c.loop-i.invariant (sym c.if-not-each_shares_only.ensures)

use Rattle.std.proofs.Common.{◌≡◌, true, take}
use Rattle.cuts.specs.Tests.{pairwise}
use Rattle.rules.specs.Sharing.{share_only}
use Rattle.book.specs.Posed.{posed}
use Rattle.rules.proofs.listed.share_only.Given as goal

abbrev pub invariant-loop-i : goal.invariant-loop-i
invariant-loop-i g l = pairwise (share_only (posed (g.B.RoadBook.meaning l.book)) l.common) (take l.i l.pairs) ≡ true

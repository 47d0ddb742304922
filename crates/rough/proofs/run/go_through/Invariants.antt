use Rattle.std.proofs.Common.{◌≡◌, ℕ, ◌+◌, ◌≤◌, true, length}
use Rattle.rough.specs.Arrays.{gone_by, held, numbered}
use Rattle.rough.specs.Order.{earlier, sorted}
use Rattle.rough.specs.Run.{go_through, gone}
use Rattle.rough.proofs.run.go_through.Given as goal

abbrev pub invariant-loop-pair : goal.invariant-loop-pair
invariant-loop-pair g l =
    let m = g.B.RoadBook.meaning l.book in
    let ps = sorted (earlier (numbered l.ranks)) (held l.left) l.pairs in
    (go_through m (gone_by l.chosen l.apart.items) ps ≡ gone m) ×
    (length l.apart.items + length ps ≤ 256) ×
    ((p : ℕ) → held l.left p ≡ true → m.opened p ≡ true) ×
    (length l.left ≡ 256)

abbrev pub decreases-loop-pair : goal.decreases-loop-pair
decreases-loop-pair g l = length (sorted (earlier (numbered l.ranks)) (held l.left) l.pairs)

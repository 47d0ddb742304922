use Rattle.std.proofs.Common.{rules}
use Rattle.book.proofs.Arrays.{made_at}
use Rattle.book.specs.Meaning.{rank_at}
use Rattle.rough.proofs.Bounded.{none_ranked}
use Rattle.rough.proofs.Filling.{fill_all}
use Rattle.rough.proofs.order.ranks_of.Goals as goal

pub returns : goal.returns
returns g c =
    let b = c.args.book.now in
    let m = g.B.RoadBook.meaning b in
    let made = c.from_fn.ensures.items in
    fill_all (rank_at m) 0 c.from_fn.result 256 made.long (λ k lt. made_at _ _ (rank_at m) c.from_fn.result 256 (λ i y q below call. search rules) made k 0 lt) (none_ranked m (g.B.RoadBook.lawful b))

use Rattle.std.proofs.Common.{false, rules}
use Rattle.book.proofs.Arrays.{made_at}
use Rattle.rough.proofs.Bounded.{none_open}
use Rattle.rough.proofs.Filling.{fill_all}
use Rattle.rough.proofs.order.open_pairs.Goals as goal

pub returns-clause-opened : goal.returns-clause-opened
returns-clause-opened g c =
    let b = c.args.book.now in
    let m = g.B.RoadBook.meaning b in
    let made = c.from_fn.ensures.items in
    fill_all m.opened false c.from_fn.result 256 made.long (λ k lt. made_at _ _ m.opened c.from_fn.result 256 (λ i y q below call. search rules) made k false lt) (none_open m (g.B.RoadBook.lawful b))

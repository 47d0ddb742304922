use Rattle.std.proofs.Common.{◌≡◌, false, length, set, replicate, sym, ap, ◌∙◌, arith, length-set}
use Rattle.cuts.proofs.Counting.{less_in}
use Rattle.rough.specs.Arrays.{gone_by, held, numbered}
use Rattle.rough.specs.Order.{earlier, in_order, sorted}
use Rattle.rough.specs.Run.{go_through, none_gone, take_up}
use Rattle.rough.proofs.Marking.{held_blank, held_less}
use Rattle.rough.proofs.Sorting.{length_sorted, sorted_done}
use Rattle.rough.proofs.Turns.{first_order, next_turn, same_gone, take_up_longer, taken_up}
use Rattle.rough.proofs.run.go_through.Goals as goal

pub loop-pair-init : goal.loop-pair-init
loop-pair-init g c =
    let b = c.args.book.now in
    let m = g.B.RoadBook.meaning b in
    let law = g.B.RoadBook.lawful b in
    let n : c.pairs-pairs.result ≡ m.pairs = c.pairs-pairs.ensures in
    let order = earlier (numbered c.ranks_of-ranks.result) in
    let f = held c.open_pairs-left.result in
    let first : sorted order f c.pairs-pairs.result ≡ in_order m = ap (sorted order f) n ∙ first_order m c.ranks_of-ranks.result c.open_pairs-left.result c.ranks_of-ranks.ensures c.open_pairs-left.ensures.opened in
    let none = ap length c.new-apart.ensures in (
      ap (λ h. go_through m h (sorted order f c.pairs-pairs.result)) (same_gone (gone_by (replicate 256 false) c.new-apart.result.items) none_gone (held_blank 256) c.new-apart.ensures) ∙ ap (go_through m none_gone) first,
      omega (arith, none, n, law.few_pairs, length_sorted order f c.pairs-pairs.result),
      λ p e. sym (c.open_pairs-left.ensures.opened p) ∙ e,
      c.open_pairs-left.ensures.long,
    )

pub first_left-requires : goal.first_left-requires
first_left-requires g c = omega (arith, c.pairs-pairs.ensures, (g.B.RoadBook.lawful c.args.book.now).few_pairs)

pub bounds-left-pair : goal.bounds-left-pair
bounds-left-pair g c =
    let b = c.args.book.now in
    let (low, _, _) = next_turn (g.B.RoadBook.meaning b) (g.B.RoadBook.lawful b) c.ranks_of-ranks.result c.loop-pair.left c.pairs-pairs.result c.in-Some.pair c.pairs-pairs.ensures c.loop-pair.invariant.3 c.in-Some.ensures in
    omega arith

pub take_up-requires : goal.take_up-requires
take_up-requires g c =
    let b = c.args.book.now in
    let (_, here, is) = next_turn (g.B.RoadBook.meaning b) (g.B.RoadBook.lawful b) c.ranks_of-ranks.result c.loop-pair.left c.pairs-pairs.result c.in-Some.pair c.pairs-pairs.ensures c.loop-pair.invariant.3 c.in-Some.ensures in
    record { opened = c.loop-pair.invariant.2 c.in-Some.pair here; room = omega (arith, c.loop-pair.invariant.1, ap length is) }

pub loop-pair-preserved : goal.loop-pair-preserved
loop-pair-preserved g c =
    let b = c.args.book.now in
    let m = g.B.RoadBook.meaning b in
    let left = c.loop-pair.left in
    let p = c.in-Some.pair in
    let order = earlier (numbered c.ranks_of-ranks.result) in
    let behind = sorted order (held (set left p false)) c.pairs-pairs.result in
    let before = gone_by c.loop-pair.chosen c.loop-pair.apart.items in
    let (so_far, short, opened, long) = c.loop-pair.invariant in
    let (lt, here, is) = next_turn m (g.B.RoadBook.lawful b) c.ranks_of-ranks.result left c.pairs-pairs.result p c.pairs-pairs.ensures long c.in-Some.ensures in
    let after = gone_by c.take_up.new.chosen c.take_up.new.apart.items in
    let turn : after ≡ take_up m before p = taken_up m before after p c.take_up.ensures.chosen c.take_up.ensures.apart in (
      ap (λ h. go_through m h behind) turn ∙ ap (go_through m before) (sym is) ∙ so_far,
      omega (arith, ap length is, ap (λ h. length h.apart) turn, take_up_longer m before p),
      λ q e. opened q (less_in (held left) p q (ap (λ s. s q) (sym (held_less left p (omega arith))) ∙ e)),
      length-set left p false ∙ long,
    )

pub loop-pair-smaller : goal.loop-pair-smaller
loop-pair-smaller g c =
    let b = c.args.book.now in
    let (lt, here, is) = next_turn (g.B.RoadBook.meaning b) (g.B.RoadBook.lawful b) c.ranks_of-ranks.result c.loop-pair.left c.pairs-pairs.result c.in-Some.pair c.pairs-pairs.ensures c.loop-pair.invariant.3 c.in-Some.ensures in
    omega (arith, ap length is)

pub returns : goal.returns
returns g c =
    let m = g.B.RoadBook.meaning c.args.book.now in
    let order = earlier (numbered c.ranks_of-ranks.result) in
    let done = sorted_done order (held c.loop-pair.left) c.pairs-pairs.result (sym c.in_default.ensures) in
    ap (go_through m (gone_by c.loop-pair.chosen c.loop-pair.apart.items)) (sym done) ∙ c.loop-pair.invariant.0

use Rattle.std.proofs.Common.{◌≡◌, ◌+◌, length, Ok, sym, ap, ◌∙◌, rules}
use Rattle.rough.specs.Arrays.{gone_by, held}
use Rattle.rough.specs.Outcome.{answer, fitted, laid, unless_empty}
use Rattle.rough.specs.Run.{apart_of, gone, links_of, rising}
use Rattle.rough.proofs.Hopeless.{lowest_empty}
use Rattle.rough.proofs.Laying.{promised}
use Rattle.rough.proofs.Room.{has_room}
use Rattle.rough.proofs.call.rough.Goals as goal

pub returns-in-Some : goal.returns-in-Some
returns-in-Some g c =
    let b = c.args.book.now in
    let m = g.B.RoadBook.meaning b in
    let found = sym c.in-Some.ensures in
    record {
      counts = ap (λ o. unless_empty o (fitted (links_of m) (apart_of m) (length c.args.links.now) (length c.args.apart.now))) (sym found);
      cut = search rules;
      pairs = search rules;
      promise = lowest_empty m (g.B.RoadBook.lawful b) c.in-Some.pair found;
      room = λ h k. ap (λ o. unless_empty o (Ok (length (links_of m), length (apart_of m)))) (sym found);
    }

pub returns : goal.returns
returns g c =
    let b = c.args.book.now in
    let m = g.B.RoadBook.meaning b in
    let law = g.B.RoadBook.lawful b in
    let xs = c.args.links.now in
    let ys = c.args.apart.now in
    let r = c.lay.result in
    let a = c.links_in-cut.result in
    let s = c.go_through-pairs.result.0 in
    let p = c.go_through-pairs.result.1 in
    let whole : gone_by s p.items ≡ gone m = c.go_through-pairs.ensures in
    let cut : c.as_slice.result.now ≡ links_of m = c.as_slice.ensures.value ∙ c.links_in-cut.ensures ∙ ap (λ n. rising (held s) (n + 1)) c.highest.ensures ∙ ap (λ h. rising h.chosen (m.highest + 1)) whole in
    let pairs : c.as_slice-2.result.now ≡ apart_of m = c.as_slice-2.ensures.value ∙ ap (λ h. h.apart) whole in
    let none = sym c.in_default.ensures in
    let counts : r ≡ fitted (links_of m) (apart_of m) (length xs) (length ys) = c.lay.ensures.counts ∙ ap (λ ls. fitted ls c.as_slice-2.result.now (length xs) (length ys)) cut ∙ ap (λ ps. fitted (links_of m) ps (length xs) (length ys)) pairs in
    let left = c.lay.ensures.cut ∙ ap (λ ls. laid r ls xs) cut in
    let right = c.lay.ensures.pairs ∙ ap (λ ps. laid r ps ys) pairs in
    let answered : r ≡ answer m (length xs) (length ys) = counts ∙ ap (λ o. unless_empty o (fitted (links_of m) (apart_of m) (length xs) (length ys))) (sym none) in
    record {
      counts = answered;
      cut = left;
      pairs = right;
      promise = promised m law none r xs ys c.lay.new.links c.lay.new.apart counts left right;
      room = λ h k. answered ∙ has_room m law (length xs) (length ys) h k;
    }

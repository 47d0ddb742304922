use Rattle.std.proofs.Common.{filter, rules, sym, ◌∙◌, arith, ap}
use borrow.Author.Tests.{tests}
use Rattle.std.specs.List.{slice_get}
use Rattle.std.proofs.lemmas.Iterator.Adapters.{option_map_id}
use Rattle.std.proofs.lemmas.Iterator.Consumers.{YieldsList-at, YieldsList-from_filter, nth_from_yields_List}
use Rattle.book.proofs.Limits.{leg_short}
use Rattle.book.specs.Meaning.{leg_of}
use Rattle.working.specs.Rest.{unmarked}
use Rattle.working.proofs.Legs.{book_link, open_in_book, rest_link}
use Rattle.working.proofs.Places.{YieldsList-from_places}
use Rattle.working.proofs.rest.WorkingRoadBook.link_at.Goals as goal

pub returns : goal.returns
returns g c =
    let m = g.B.RoadBook.meaning c.args.self.now.book.now in
    let t = c.args.self.now.tally in
    let s = c.args.leg in
    let p = c.args.pair in
    let o = c.if-not-is_open.ensures in
    let whole = leg_short m (g.B.RoadBook.lawful c.args.self.now.book.now) s p (open_in_book m t s p o) in
    sym (option_map_id _) ∙
    nth_from_yields_List c.nth.result _ _ c.nth.ensures.ran
    (YieldsList-from_filter _ (unmarked t) (YieldsList-at c.filter.ensures.source
    (YieldsList-from_places _ _ 256 (leg_of m s p) c.map_while.ensures.source c.map_while.ensures.closure (omega (arith, whole)) (λ k r q h. let at = book_link m t s p o k in search (rules, tests))))
    c.filter.ensures.closure (λ x b q k. search (rules, tests))) ∙
    ap (slice_get (filter (unmarked t) (leg_of m s p))) c.from.ensures ∙
    sym (rest_link m t s p o c.args.place)

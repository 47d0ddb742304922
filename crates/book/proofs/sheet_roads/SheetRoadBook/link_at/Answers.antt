use Rattle.std.proofs.Common.{ap, ◌∙◌, sym, rules, tests}
use Rattle.std.proofs.lemmas.Iterator.{YieldsList-from_range}
use Rattle.std.proofs.lemmas.Iterator.Adapters.{option_map_id}
use Rattle.std.proofs.lemmas.Iterator.Consumers.{YieldsList-from_filter, nth_from_yields_List}
use Rattle.std.specs.List.{filter, range_with_len, slice_get}
use Rattle.book.specs.Sheets.{leg_test}
use Rattle.book.proofs.Sides.{leg_picked}
use Rattle.book.proofs.sheet_roads.SheetRoadBook.link_at.Goals as goal

pub returns : goal.returns
returns c =
    let p = c.args.self.now.plan in
    let q = c.args.pair in
    let g = leg_test p c.args.leg q in
    sym (option_map_id c.nth.result) ∙
    nth_from_yields_List _ _ _ c.nth.ensures.ran (YieldsList-from_filter _ g (YieldsList-from_range 0 256 256 (cc) (cc)) c.filter.ensures.closure (λ x b f' k. search (rules, tests))) ∙
    ap (slice_get (filter g (range_with_len 0 256))) c.from.ensures ∙ leg_picked p c.args.leg q c.args.place c.if-not-is_open.ensures

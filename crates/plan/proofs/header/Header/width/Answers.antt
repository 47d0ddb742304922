use Rattle.std.proofs.Common.{◌*◌, ◌%◌, ◌^◌, leb, refl, rules, sym, ap, ◌∙◌}
use Rattle.std.proofs.lemmas.Iterator.{YieldsList-from_range}
use Rattle.std.proofs.lemmas.Iterator.Adapters.{option_map_id}
use Rattle.std.proofs.lemmas.Iterator.Search.{find_from_yields_List}
use Rattle.std.specs.Option.{unwrap_or}
use borrow.Author.Tests.{tests}
use Rattle.plan.proofs.Widths.{width_found}
use Rattle.plan.proofs.header.Header.width.Goals as goal

pub returns-clause-value : goal.returns-clause-value
returns-clause-value c =
    let n = c.args.self.terms in
    let found = find_from_yields_List (λ w. leb n ((1 * 2 ^ w) % 2 ^ 16)) c.find.new.self _ c.find.result c.find.ensures.ran (YieldsList-from_range 0 8 8 refl refl) (λ x b q k. search (rules, tests)) in
    c.unwrap_or.ensures ∙ ap (λ r. unwrap_or r 8) (sym (option_map_id _) ∙ found) ∙ width_found n

use Rattle.std.proofs.Common.{◌≡◌, not, rules, sym, ◌∙◌}
use Rattle.std.proofs.lemmas.Iterator.{YieldsList-from_slice}
use Rattle.std.proofs.lemmas.Iterator.Adapters.{option_map_id}
use Rattle.std.proofs.lemmas.Iterator.Consumers.{YieldsList-from_copied}
use Rattle.std.proofs.lemmas.Iterator.Search.{find_from_yields_List}
use borrow.Author.Tests.{tests}
use Rattle.rules.specs.Faulty.{first_closed}
use Rattle.rules.proofs.faulty.first_closed.Goals as goal

pub returns : goal.returns
returns g c =
    let f = (g.B.RoadBook.meaning c.args.book.now).opened in
    let found = find_from_yields_List (λ q. not (f q)) c.find.new.self _ c.find.result c.find.ensures.ran (YieldsList-from_copied (YieldsList-from_slice c.args.pairs.now cc)) (λ x b q k. search (rules, tests)) in
    let named : c.find.result ≡ first_closed f c.args.pairs.now = sym (option_map_id _) ∙ found in
    search rules

use Rattle.std.proofs.Common.{rules, ◌∙◌, arith}
use borrow.Author.Tests.{tests}
use Rattle.std.proofs.lemmas.Iterator.{YieldsList-from_range}
use Rattle.std.proofs.lemmas.Iterator.Consumers.{YieldsList-at, YieldsList-from_filter}
use Rattle.rough.specs.Arrays.{held, numbered}
use Rattle.rough.specs.Order.{earlier}
use Rattle.rough.proofs.Nearest.{nearest_is, picked_is, picks_by_key}
use Rattle.rough.proofs.order.first_left.Goals as goal

pub returns : goal.returns
returns c =
    let n = c.args.pairs in
    let r = numbered c.args.ranks.now in
    let h = held c.args.left.now in
    picks_by_key _ _ (λ p. record { 0 = r p }) _ (λ x b q k. search (rules, tests)) c.filter.result c.min_by_key.result c.min_by_key.ensures.ran
    (YieldsList-from_filter _ h (YieldsList-at c.filter.ensures.source (YieldsList-from_range 0 n n (cc) (omega arith)))
    c.filter.ensures.closure (λ x b q k. search (rules, tests))) ∙
    nearest_is _ (earlier r) h (picked_is r) n

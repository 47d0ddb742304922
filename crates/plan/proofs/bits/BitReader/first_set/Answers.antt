use Rattle.std.proofs.Common.{◌≡◌, ◌≢◌, rules, arith}
use Rattle.std.proofs.lemmas.Iterator.{first_from_Range}
use borrow.Author.Tests.{tests}
use Rattle.plan.specs.Bits.{bit_at}
use Rattle.plan.proofs.Fields.{bit_lt}
use Rattle.plan.proofs.bits.BitReader.first_set.Goals as goal

pub returns : goal.returns
returns c =
    let bs = c.args.self.now.bytes.now in
    first_from_Range (record { start = c.args.self.now.at; end = c.args.end }) c.find.new.self _ c.find.result (λ k. bit_at bs k ≡ 1) (λ k. bit_at bs k ≡ 0) c.find.ensures.ran (λ x q k. let set : bit_at bs x ≢ 0 = search (rules, tests) in omega (arith, set, bit_lt bs x)) (λ x q k. search (rules, tests))

use Rattle.std.proofs.Common.{◌≡◌}
use Rattle.plan.specs.Layout.{ends_in, pair_place, PairsBelow}
use Rattle.plan.proofs.Rows.{Written}
use Rattle.plan.proofs.header.Header.read_pairs.Given as goal

abbrev pub invariant-loop-q : goal.invariant-loop-q
invariant-loop-q l =
    let bs = l.initial.bits.bytes.now in
    (l.bits.bytes ≡ l.initial.bits.bytes) × (l.bits.at ≡ pair_place l.fn.self.terms l.q) × Written (ends_in bs l.fn.self.terms) (0, 0) 0 l.q l.ends × PairsBelow bs l.fn.self.terms l.q

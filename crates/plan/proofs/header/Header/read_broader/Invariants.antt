use Rattle.std.proofs.Common.{◌≡◌}
use Rattle.plan.specs.Layout.{broader_in, broader_place, TreeBelow}
use Rattle.plan.proofs.Rows.{Written}
use Rattle.plan.proofs.header.Header.read_broader.Given as goal

abbrev pub invariant-loop-t : goal.invariant-loop-t
invariant-loop-t l =
    let bs = l.initial.bits.bytes.now in
    (l.bits.bytes ≡ l.initial.bits.bytes) × (l.bits.at ≡ broader_place l.fn.self.terms l.t) × Written (broader_in bs l.fn.self.terms) 0 1 l.t l.broader × TreeBelow bs l.fn.self.terms l.t

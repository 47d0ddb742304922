use Rattle.std.proofs.Common.{◌≡◌, sym, ap, ◌∙◌, arith}
use Rattle.plan.specs.Bits.{whole_bytes}
use Rattle.plan.specs.Layout.{pair_place}
use Rattle.plan.proofs.PackedBytes.{packed_length}
use Rattle.plan.proofs.shape.Plan.packed_len.Goals as goal

pub returns : goal.returns
returns c =
    let p = c.args.self.now in
    let h = c.header.ensures in
    let e : c.div_ceil.result ≡ whole_bytes c.bits.result = omega (arith, c.div_ceil.ensures) in
    e ∙ ap whole_bytes (c.bits.ensures.value ∙ ap (λ n. pair_place n c.header.result.pairs) h.terms ∙ ap (pair_place p.terms) h.pairs) ∙ sym (packed_length p)

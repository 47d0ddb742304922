use Rattle.std.proofs.Common.{◌++◌, ap, ◌∙◌, arith}
use Rattle.plan.specs.Packed.{number_bits}
use Rattle.plan.proofs.Digits.{length_bits}
use Rattle.plan.proofs.FieldLists.{head_bits}
use Rattle.plan.proofs.Puts.{room_after, wrote_more, wrote_same}
use Rattle.plan.proofs.header.Header.write.Goals as goal

pub field-requires-2 : goal.field-requires-2
field-requires-2 c =
    record { narrow = omega arith; room = room_after c.field.ensures c.requires (omega (arith, length_bits 9 c.args.self.terms)) }

pub field-requires-3 : goal.field-requires-3
field-requires-3 c =
    let h = c.args.self in
    let one = room_after {n = 17} c.field.ensures c.requires (omega (arith, length_bits 9 h.terms)) in
    record { narrow = omega arith; room = room_after c.field-2.ensures one (omega (arith, length_bits 9 h.pairs)) }

pub returns : goal.returns
returns c =
    let h = c.args.self in
    wrote_same (wrote_more (wrote_more c.field.ensures c.field-2.ensures) c.field-3.ensures) (ap (λ k. number_bits 9 h.terms ++ number_bits 9 h.pairs ++ number_bits 8 k) c.from.ensures ∙ head_bits h.terms h.pairs h.budget)

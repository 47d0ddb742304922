use Rattle.std.proofs.Common.{◌≡◌, ◌-◌, ◌/◌, ◌^◌, sym, ap, ◌∙◌, arith}
use Rattle.plan.specs.Packed.{number_bits}
use Rattle.plan.proofs.Digits.{bits_none, bits_next, length_bits}
use Rattle.plan.proofs.Puts.{room_after, wrote_more, wrote_none, wrote_same}
use Rattle.plan.proofs.bit_writer.BitWriter.field.Goals as goal

pub loop-place-init : goal.loop-place-init
loop-place-init c =
    let w = c.args.width in
    let none : 0 ≡ w - w = omega arith in
    wrote_same (wrote_none c.args.self.now) (sym (bits_none (c.args.value / 2 ^ w)) ∙ ap (λ k. number_bits k (c.args.value / 2 ^ w)) none)

pub bit-requires-clause-room : goal.bit-requires-clause-room
bit-requires-clause-room c =
    let p = c.loop-place.place in
    room_after c.loop-place.invariant c.requires.room (omega (arith, length_bits (c.args.width - p) (c.args.value / 2 ^ p)))

pub loop-place-preserved : goal.loop-place-preserved
loop-place-preserved c =
    wrote_same (wrote_more c.loop-place.invariant c.bit.ensures) (sym (bits_next c.args.width c.loop-place.place c.args.value (omega arith) (omega arith)))

use Rattle.std.proofs.Common.{◌≡◌, ℕ, ◌+◌, ◌*◌, ◌<◌, ◌++◌, ap, ◌∙◌, arith}
use Rattle.std.specs.List.{flat_map}
use Rattle.plan.specs.Layout.{width_for}
use Rattle.plan.specs.Packed.{end_fields, field_bits, number_bits}
use Rattle.plan.specs.Plans.{ends_of}
use Rattle.plan.specs.Writes.{Room, Wrote}
use Rattle.plan.specs.declared.bit_writer.BitWriter.{BitWriter}
use Rattle.plan.specs.declared.shape.Plan.{Plan}
use Rattle.plan.proofs.Digits.{length_bits}
use Rattle.plan.proofs.FieldLists.{end_bits_more, length_fields, widths_ends}
use Rattle.plan.proofs.Places.{pair_next, pair_within}
use Rattle.plan.proofs.Puts.{room_after, room_within, wrote_more, wrote_none, wrote_same}
use Rattle.plan.proofs.shape.Plan.write_pairs.Goals as goal

-- before a pair is written there is room for both its terms
for_both : (p : Plan) (q v : ℕ) {s t : BitWriter} → v ≡ width_for p.terms → Wrote s t (flat_map field_bits (end_fields (width_for p.terms) (ends_of p) q)) → Room s (p.pairs * (2 * width_for p.terms)) → q < p.pairs → Room t (v + v)
for_both p q v is wrote room h =
    let n = p.terms in
    let w = width_for n in
    let long = length_fields (end_fields w (ends_of p) q) ∙ widths_ends w (ends_of p) q in
    room_after wrote room (omega (arith, is, long, pair_next n q, pair_within n (q + 1) p.pairs (omega arith)))

pub field-requires : goal.field-requires
field-requires c =
    let is = c.width-width.ensures.value ∙ ap width_for c.header.ensures.terms in
    let both = for_both c.args.self.now c.loop-q.q c.width-width.result is c.loop-q.invariant c.requires c.loop-q-test.true in
    record { narrow = omega arith; room = room_within both (omega arith) }

pub field-requires-in-loop-q : goal.field-requires-in-loop-q
field-requires-in-loop-q c =
    let v = c.width-width.result in
    let is = c.width-width.ensures.value ∙ ap width_for c.header.ensures.terms in
    let both = for_both c.args.self.now c.loop-q.q v is c.loop-q.invariant c.requires c.loop-q-test.true in
    record { narrow = omega arith; room = room_after c.field.ensures both (omega (arith, length_bits v c.ends-first.result.0)) }

pub loop-q-init : goal.loop-q-init
loop-q-init c = wrote_none c.args.bits.now

pub loop-q-preserved : goal.loop-q-preserved
loop-q-preserved c =
    let p = c.args.self.now in
    let w = width_for p.terms in
    let q = c.loop-q.q in
    let v = c.width-width.result in
    let e = c.ends-first.result in
    let before = flat_map field_bits (end_fields w (ends_of p) q) in
    let known = ap (λ k. before ++ number_bits k e.0 ++ number_bits k e.1) (c.width-width.ensures.value ∙ ap width_for c.header.ensures.terms) ∙
    ap (λ k. before ++ number_bits w k ++ number_bits w e.1) c.ends-first.ensures.0 ∙
    ap (λ k. before ++ number_bits w (ends_of p q).0 ++ number_bits w k) c.ends-first.ensures.1 in
    wrote_same (wrote_more (wrote_more c.loop-q.invariant c.field.ensures) c.field-in-loop-q.ensures) (known ∙ end_bits_more w (ends_of p) q)

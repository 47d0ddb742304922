use Rattle.std.proofs.Common.{◌≡◌, ◌+◌, ◌-◌, ◌*◌, ◌≤◌, ◌++◌, length, drop, refl, ap, ◌∙◌, arith, rules}
use Rattle.std.specs.List.{flat_map}
use Rattle.plan.specs.Layout.{pair_place, width_for}
use Rattle.plan.specs.Packed.{field_bits, head_fields, packed, term_fields}
use Rattle.plan.specs.Plans.{broader_of}
use Rattle.plan.specs.Writes.{Room}
use Rattle.plan.specs.declared.bit_writer.BitWriter.{BitWriter}
use Rattle.plan.specs.declared.shape.Plan.{Plan}
use Rattle.plan.proofs.FieldLists.{length_fields, plan_bits, widths_terms}
use Rattle.plan.proofs.PackedBytes.{packed_length, put_plan}
use Rattle.plan.proofs.Places.{places_few}
use Rattle.plan.proofs.Puts.{room_after, room_within, wrote_more, wrote_same}
use Rattle.plan.proofs.shape.Plan.write_packed.Goals as goal

-- the whole plan has room from the start
for_all : (p : Plan) {s : BitWriter} → s.at ≡ 0 → length (packed p) ≤ length s.bytes.now → Room s (pair_place p.terms p.pairs)
for_all p start fits =
    record { early = omega (arith, start, places_few p.terms p.pairs p.counted); within = omega (arith, start, fits, packed_length p) }

pub write-requires : goal.write-requires
write-requires c = room_within (for_all c.args.self.now refl c.requires) (omega arith)

pub write_broader-requires : goal.write_broader-requires
write_broader-requires c =
    let h = c.header.result in
    room_after c.write.ensures (for_all c.args.self.now refl c.requires) (omega (arith, length_fields (head_fields h.terms h.pairs h.budget)))

pub write_pairs-requires : goal.write_pairs-requires
write_pairs-requires c =
    let p = c.args.self.now in
    let h = c.header.result in
    let w = width_for p.terms in
    let left = room_after {n = (p.terms - 1) * w + p.pairs * (2 * w)} c.write.ensures (for_all p refl c.requires) (omega (arith, length_fields (head_fields h.terms h.pairs h.budget))) in
    room_after c.write_broader.ensures left (omega (arith, length_fields (term_fields w (broader_of p) (p.terms - 1)), widths_terms w (broader_of p) (p.terms - 1)))

pub returns : goal.returns
returns c =
    let p = c.args.self.now in
    let old = c.args.out.now in
    let h = c.header.ensures in
    let head = wrote_same c.write.ensures (ap (λ n. flat_map field_bits (head_fields n c.header.result.pairs c.header.result.budget)) h.terms ∙ ap (λ m. flat_map field_bits (head_fields p.terms m c.header.result.budget)) h.pairs ∙ ap (λ k. flat_map field_bits (head_fields p.terms p.pairs k)) h.budget) in
    let all = wrote_same (wrote_more (wrote_more head c.write_broader.ensures) c.write_pairs.ensures) (plan_bits p) in
    let e : c.write_pairs.new.bits.bytes.now ≡ packed p ++ drop (length (packed p)) old = all.bytes ∙ put_plan p old (length (packed p)) (packed_length p) c.requires in
    let lent = all.lent in
    search rules

use Rattle.std.proofs.Common.{◌+◌, ◌-◌, ◌++◌, ap, ◌∙◌, arith}
use Rattle.std.specs.List.{flat_map}
use Rattle.plan.specs.Layout.{width_for}
use Rattle.plan.specs.Packed.{field_bits, number_bits, term_fields}
use Rattle.plan.specs.Plans.{broader_of}
use Rattle.plan.proofs.FieldLists.{length_fields, term_bits_more, widths_terms}
use Rattle.plan.proofs.Places.{broader_next, broader_within}
use Rattle.plan.proofs.Puts.{room_after, wrote_more, wrote_none, wrote_same}
use Rattle.plan.proofs.shape.Plan.write_broader.Goals as goal

pub field-requires : goal.field-requires
field-requires c =
    let p = c.args.self.now in
    let n = p.terms in
    let w = width_for n in
    let t = c.loop-t.t in
    let low = c.loop-t.auto.t in
    let width = ap width_for c.header.ensures.terms in
    let fs = term_fields w (broader_of p) (t - 1) in
    let long = length_fields fs ∙ widths_terms w (broader_of p) (t - 1) in
    record {
      narrow = omega arith;
      room = room_after c.loop-t.invariant c.requires (omega (arith, long, width, c.width-width.ensures.value, broader_next n t (omega arith), broader_within n (t + 1) n (omega arith)));
    }

pub loop-t-init : goal.loop-t-init
loop-t-init c = wrote_none c.args.bits.now

pub loop-t-preserved : goal.loop-t-preserved
loop-t-preserved c =
    let p = c.args.self.now in
    let w = width_for p.terms in
    let t = c.loop-t.t in
    let low = c.loop-t.auto.t in
    let before = flat_map field_bits (term_fields w (broader_of p) (t - 1)) in
    let known = ap (λ k. before ++ number_bits k c.broader.result) (c.width-width.ensures.value ∙ ap width_for c.header.ensures.terms) ∙ ap (λ k. before ++ number_bits w k) c.broader.ensures.value in
    wrote_same (wrote_more c.loop-t.invariant c.field.ensures) (known ∙ term_bits_more w (broader_of p) t (omega arith))

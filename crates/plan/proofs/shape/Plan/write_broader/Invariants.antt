use Rattle.std.proofs.Common.{◌-◌}
use Rattle.std.specs.List.{flat_map}
use Rattle.plan.specs.Layout.{width_for}
use Rattle.plan.specs.Packed.{field_bits, term_fields}
use Rattle.plan.specs.Plans.{broader_of}
use Rattle.plan.specs.Writes.{Wrote}
use Rattle.plan.proofs.shape.Plan.write_broader.Given as goal

abbrev pub invariant-loop-t : goal.invariant-loop-t
invariant-loop-t l =
    let p = l.self in
    Wrote l.initial.bits l.bits (flat_map field_bits (term_fields (width_for p.terms) (broader_of p) (l.t - 1)))

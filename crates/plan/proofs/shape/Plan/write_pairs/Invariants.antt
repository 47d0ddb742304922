use Rattle.std.specs.List.{flat_map}
use Rattle.plan.specs.Layout.{width_for}
use Rattle.plan.specs.Packed.{end_fields, field_bits}
use Rattle.plan.specs.Plans.{ends_of}
use Rattle.plan.specs.Writes.{Wrote}
use Rattle.plan.proofs.shape.Plan.write_pairs.Given as goal

abbrev pub invariant-loop-q : goal.invariant-loop-q
invariant-loop-q l = let p = l.self in Wrote l.initial.bits l.bits (flat_map field_bits (end_fields (width_for p.terms) (ends_of p) l.q))

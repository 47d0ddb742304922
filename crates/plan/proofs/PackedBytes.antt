-- The packed bytes of a plan.
--     plan_binary      a plan's bits are 0 or 1
--     packed_length    how many bytes there are
--     put_plan         a plan's bits, written one behind the other, are its packed bytes in front
use Rattle.std.proofs.Common.{◌≡◌, ℕ, ◌<◌, ◌≤◌, List, [], ◌∷◌, ◌++◌, length, drop, sym, ap, ◌∙◌}
use Rattle.std.specs.List.{flat_map}
use Rattle.std.proofs.ByRecursion.{All-append}
use Rattle.plan.specs.Bits.{whole_bytes}
use Rattle.plan.specs.Layout.{pair_place}
use Rattle.plan.specs.Packed.{bits_of, field_bits, packed, plan_fields}
use Rattle.plan.specs.Writes.{put_bits}
use Rattle.plan.specs.declared.shape.Plan.{Plan}
use Rattle.plan.proofs.Digits.{Binary, bits_binary}
use Rattle.plan.proofs.FieldLists.{plan_length}
use Rattle.plan.proofs.Fronts.{put_front}
use Rattle.plan.proofs.Octets.{length_bytes}

fields_binary : (fs : List (ℕ × ℕ)) → Binary (flat_map field_bits fs)
fields_binary [] = tt
fields_binary (f ∷ fs) = All-append (λ b. b < 2) (field_bits f) (flat_map field_bits fs) (bits_binary f.0 f.1) (fields_binary fs)

pub plan_binary : (p : Plan) → Binary (bits_of p)
unfolding bits_of
plan_binary p = fields_binary (plan_fields p)

pub packed_length : (p : Plan) → length (packed p) ≡ whole_bytes (pair_place p.terms p.pairs)
unfolding packed
packed_length p = length_bytes (bits_of p) ∙ ap whole_bytes (plan_length p)

pub put_plan : (p : Plan) (old : List ℕ) (n : ℕ) → n ≡ whole_bytes (pair_place p.terms p.pairs) → n ≤ length old → put_bits old 0 (bits_of p) ≡ packed p ++ drop n old
unfolding packed
put_plan p old n e fits =
    let f : whole_bytes (length (bits_of p)) ≡ n = ap whole_bytes (plan_length p) ∙ sym e in
    put_front (bits_of p) old (plan_binary p) (rw f fits) ∙ ap (λ k. packed p ++ drop k old) f

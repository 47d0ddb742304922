-- Where the fields of a packed plan stand: one behind the other.
--     broader_next    the field behind that of term t is that of term t + 1
--     broader_within  no term's field ends behind that of the last
--     pair_next       the field behind those of pair q is that of pair q + 1
--     pair_within     no pair's fields end behind those of the last
--     places_few      all places of a plan are small numbers
use Rattle.std.proofs.Common.{◌≡◌, ℕ, ◌+◌, ◌-◌, ◌*◌, ◌^◌, ◌<◌, ◌≤◌, mul-le-mul_right, add-mul, one-mul, arith}
use Rattle.std.proofs.lemmas.Nat.{mul-le}
use Rattle.plan.specs.Layout.{broader_place, pair_place, width_for}
use Rattle.plan.specs.Shape.{Counted}
use Rattle.plan.proofs.Widths.{width_le}

pub broader_next : (n t : ℕ) → 0 < t → broader_place n t + width_for n ≡ broader_place n (t + 1)
broader_next n t pos =
    let w = width_for n in
    let e : t + 1 - 1 ≡ t - 1 + 1 = omega arith in
    rw e (omega (arith, add-mul (t - 1) 1 w, one-mul w))

pub broader_within : (n s t : ℕ) → s ≤ t → broader_place n s ≤ broader_place n t
broader_within n s t h = let k : s - 1 ≤ t - 1 = omega arith in omega (arith, mul-le-mul_right (width_for n) k)

pub pair_next : (n q : ℕ) → pair_place n q + width_for n + width_for n ≡ pair_place n (q + 1)
pair_next n q = let w = width_for n in omega (arith, add-mul q 1 (2 * w), one-mul (2 * w))

pub pair_within : (n p q : ℕ) → p ≤ q → pair_place n p ≤ pair_place n q
pair_within n p q h = omega (arith, mul-le-mul_right (2 * width_for n) h)

pub places_few : (n m : ℕ) → Counted n m → pair_place n m < 2 ^ 20
places_few n m h =
    let w = width_for n in
    omega (arith, h.0, h.1, mul-le (n - 1) w 255 8 (omega arith) (width_le n), mul-le m (2 * w) 256 16 (omega (arith, h.1)) (omega (arith, width_le n)))

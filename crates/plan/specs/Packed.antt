-- The packed bytes of a plan, from its numbers alone.
-- A field is a width and a number: the number is written in so many bits, the most significant first.
--     number_bits w v            the number v in w bits
--     fields_of n m k up ends    the fields of n terms, m pairs and the budget k, in file order
--     plan_fields p              those of a plan
--     bits_of p                  the bits of a plan: those of its fields, as one list
--     number_at bits i w         the number in the w bits from place i on; behind the end all bits are zero
--     bytes_of bits              the bytes that hold the bits, eight to a byte; zero bits fill the last
--     packed p                   the bytes of a plan's bits
use Rattle.std.specs.Prelude.{ℕ, zero, suc, ◌+◌, ◌-◌, ◌*◌, ◌/◌, ◌%◌, List, [], ◌∷◌, ◌++◌, map, length, slice_index}
use Rattle.std.specs.List.{range_with_len, flat_map}
use Rattle.plan.specs.Bits.{whole_bytes}
use Rattle.plan.specs.Layout.{width_for}
use Rattle.plan.specs.Plans.{broader_of, ends_of}
use Rattle.plan.specs.declared.shape.Plan.{Plan}

unfoldable pub number_bits : ℕ → ℕ → List ℕ
number_bits zero v = []
number_bits (suc w) v = number_bits w (v / 2) ++ (v % 2 ∷ [])

abbrev pub field_bits : ℕ × ℕ → List ℕ
field_bits f = number_bits f.0 f.1

abbrev pub head_fields : ℕ → ℕ → ℕ → List (ℕ × ℕ)
head_fields n m k = (9, n) ∷ (9, m) ∷ (8, k) ∷ []

abbrev pub term_field : ℕ → (ℕ → ℕ) → ℕ → ℕ × ℕ
term_field w up t = (w, up t)

abbrev pub pair_fields : ℕ → (ℕ → ℕ × ℕ) → ℕ → List (ℕ × ℕ)
pair_fields w ends q = (w, (ends q).0) ∷ (w, (ends q).1) ∷ []

-- the broader terms of term 1 and the j - 1 behind it
abbrev pub term_fields : ℕ → (ℕ → ℕ) → ℕ → List (ℕ × ℕ)
term_fields w up j = map (term_field w up) (range_with_len 1 j)

-- both terms of each of the pairs below q
abbrev pub end_fields : ℕ → (ℕ → ℕ × ℕ) → ℕ → List (ℕ × ℕ)
end_fields w ends q = flat_map (pair_fields w ends) (range_with_len 0 q)

abbrev pub fields_of : ℕ → ℕ → ℕ → (ℕ → ℕ) → (ℕ → ℕ × ℕ) → List (ℕ × ℕ)
fields_of n m k up ends = head_fields n m k ++ (term_fields (width_for n) up (n - 1) ++ end_fields (width_for n) ends m)

abbrev pub plan_fields : Plan → List (ℕ × ℕ)
plan_fields p = fields_of p.terms p.pairs p.budget (broader_of p) (ends_of p)

unfoldable pub bits_of : Plan → List ℕ
bits_of p = flat_map field_bits (plan_fields p)

unfoldable pub number_at : List ℕ → ℕ → ℕ → ℕ
number_at bits i zero = 0
number_at bits i (suc w) = number_at bits i w * 2 + slice_index bits (i + w)

abbrev pub byte_at : List ℕ → ℕ → ℕ
byte_at bits k = number_at bits (8 * k) 8

unfoldable pub bytes_of : List ℕ → List ℕ
bytes_of bits = map (byte_at bits) (range_with_len 0 (whole_bytes (length bits)))

unfoldable pub packed : Plan → List ℕ
packed p = bytes_of (bits_of p)

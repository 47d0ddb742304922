-- The bits of a list of bytes, the most significant bit of each byte first.
--     Bytes bs           each number of the list is below 256
--     bit_at bs i        the bit at place i, counted from 0
--     field_at bs i w    the number written in the w bits from place i on
--     whole_bytes i      how many bytes hold i bits
--     Filled bs i        behind the first i bits only zero bits fill the last byte, and no byte follows
--     Surplus bs i j     j is the first place from i on that keeps bs from being filled
use Rattle.std.specs.Prelude.{◌≡◌, ℕ, zero, suc, ◌+◌, ◌-◌, ◌*◌, ◌/◌, ◌%◌, ◌^◌, ◌<◌, ◌≤◌, ◌⊎◌, List, length, slice_index}
use Rattle.std.specs.List.{AllByRecursion}

abbrev pub Bytes : List ℕ → Type 0
Bytes bs = AllByRecursion (λ b. b < 256) bs

abbrev pub bit_at : List ℕ → ℕ → ℕ
bit_at bs i = slice_index bs (i / 8) / 2 ^ (7 - i % 8) % 2

unfoldable pub field_at : List ℕ → ℕ → ℕ → ℕ
field_at bs i zero = 0
field_at bs i (suc w) = field_at bs i w * 2 + bit_at bs (i + w)

abbrev pub whole_bytes : ℕ → ℕ
whole_bytes i = (i + 7) / 8

abbrev pub Zeros : List ℕ → ℕ → ℕ → Type 0
Zeros bs i j = (k : ℕ) → i ≤ k → k < j → bit_at bs k ≡ 0

abbrev pub Filled : List ℕ → ℕ → Type 0
Filled bs i = Zeros bs i (8 * whole_bytes i) × (length bs ≤ whole_bytes i)

abbrev pub Surplus : List ℕ → ℕ → ℕ → Type 0
Surplus bs i j = (i ≤ j) × Zeros bs i j × (((j < 8 * whole_bytes i) × (bit_at bs j ≡ 1)) ⊎ ((j ≡ 8 * whole_bytes i) × (whole_bytes i < length bs)))

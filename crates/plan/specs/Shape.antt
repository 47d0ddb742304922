-- What holds of every plan.
--     Counted n m       there are 1 to 256 terms and at most 256 pairs
--     Rooted n b        each of the n terms but 0 has a smaller broader term; unused places are zero
--     Paired n m es     each of the m pairs is two of the n terms, the smaller first
--     Unpaired m es     the places behind the m pairs are zero
--     Stored k b es     the budget is below 256, and both arrays have 256 places
use Rattle.std.specs.Prelude.{◌≡◌, ℕ, ◌<◌, ◌≤◌, List, length, get_or, slice_index, slice_index_or}

abbrev pub Counted : ℕ → ℕ → Type 0
Counted n m = (1 ≤ n) × (n ≤ 256) × (m ≤ 256)

abbrev pub Rooted : ℕ → List ℕ → Type 0
Rooted n b = ((t : ℕ) → 0 < t → t < n → slice_index b t < t) × ((t : ℕ) → n ≤ t → slice_index b t ≡ 0) × (slice_index b 0 ≡ 0)

-- a pair that is two of n terms, the smaller first
abbrev pub Ordered : ℕ → ℕ × ℕ → Type 0
Ordered n e = (e.0 < e.1) × (e.1 < n)

abbrev pub Paired : ℕ → ℕ → List (ℕ × ℕ) → Type 0
Paired n m es = (p : ℕ) → p < m → Ordered n (slice_index_or es p (0, 0))

abbrev pub Unpaired : ℕ → List (ℕ × ℕ) → Type 0
Unpaired m es = (p : ℕ) → m ≤ p → ((get_or es p (0, 0)).0 ≡ 0) × ((get_or es p (0, 0)).1 ≡ 0)

abbrev pub Stored : ℕ → List ℕ → List (ℕ × ℕ) → Type 0
Stored k b es = (k < 256) × (length b ≡ 256) × (length es ≡ 256)

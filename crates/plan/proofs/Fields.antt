-- The numbers that fields hold.
--     field_none     a field of no bits holds 0
--     field_lt       a field of w bits is below 2 ^ w
--     field_more     one bit more
--     counting_push  one number more is counted
--     field_folds    bit after bit taken into sixteen bits gives the field
--     lt_from_field  a number read from a field of w bits is below 2 ^ w
use Rattle.std.proofs.Common.{◌≡◌, ℕ, zero, suc, ◌+◌, ◌-◌, ◌*◌, ◌/◌, ◌%◌, ◌^◌, ◌<◌, ◌≤◌, List, [], ◌∷◌, ◌++◌, get_or, sym, refl, ap, ◌∙◌, pow-suc, add-one, arith}
use lib.Bits.{bit_or}
use Rattle.std.specs.List.{fold, range_with_len}
use Rattle.std.proofs.lemmas.Grind.{fold-append}
use Rattle.std.proofs.lemmas.List.{map-id}
use Rattle.std.proofs.lemmas.List.FromFn.{map-range_with_len_more}
use Rattle.std.proofs.lemmas.Nat.{mod_below, or_shifted, shl_whole}
use Rattle.plan.specs.Bits.{bit_at, field_at}

pub bit_lt : (bs : List ℕ) (i : ℕ) → bit_at bs i < 2
bit_lt bs i = mod_below (get_or bs (i / 8) 0 / 2 ^ (7 - i % 8)) 2 (omega arith)

pub field_none : (bs : List ℕ) (i : ℕ) → field_at bs i 0 ≡ 0
unfolding field_at
field_none bs i = refl

pub field_lt : (bs : List ℕ) (i w : ℕ) → field_at bs i w < 2 ^ w
unfolding field_at
field_lt bs i zero = omega arith
field_lt bs i (suc w) = omega (arith, pow-suc 2 w, field_lt bs i w, bit_lt bs (i + w))

pub field_more : (bs : List ℕ) (i w : ℕ) → field_at bs i (w + 1) ≡ field_at bs i w * 2 + bit_at bs (i + w)
unfolding field_at
field_more bs i w = rw (add-one w)

pub counting_push : (a n : ℕ) → range_with_len a (n + 1) ≡ range_with_len a n ++ ((a + n) ∷ [])
counting_push a n = sym (map-id (range_with_len a (n + 1))) ∙ map-range_with_len_more (λ (k : ℕ). k) a n (a + n) refl ∙ ap (λ xs. xs ++ ((a + n) ∷ [])) (map-id (range_with_len a n))

-- `(v << 1) | b` in sixteen bits
abbrev pub take_bit : List ℕ → ℕ → ℕ → ℕ
take_bit bs v k = bit_or ((v * 2 ^ 1) % 2 ^ 16) (bit_at bs k)

pub field_folds : (bs : List ℕ) (i w : ℕ) → w ≤ 16 → fold (take_bit bs) 0 (range_with_len i w) ≡ field_at bs i w
unfolding field_at
field_folds bs i zero h = refl
field_folds bs i (suc w) h =
    let v = field_at bs i w in
    let b = bit_at bs (i + w) in
    let s : suc w ≡ w + 1 = omega arith in
    ap (λ n. fold (take_bit bs) 0 (range_with_len i n)) s ∙ ap (fold (take_bit bs) 0) (counting_push i w) ∙ fold-append (take_bit bs) 0 (range_with_len i w) ((i + w) ∷ []) ∙
    ap (λ x. take_bit bs x (i + w)) (field_folds bs i w (omega arith)) ∙ ap (λ x. bit_or x b) (shl_whole v w 1 16 (field_lt bs i w) (omega arith)) ∙ or_shifted v 1 b (bit_lt bs (i + w))

pub lt_from_field : {v : ℕ} (bs : List ℕ) (i w : ℕ) → v ≡ field_at bs i w → v < 2 ^ w
lt_from_field bs i w e = omega (arith, e, field_lt bs i w)

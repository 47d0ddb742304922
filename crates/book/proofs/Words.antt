-- The bits of words that are filled bit by bit.
--     bits_none, bits_more    one bit more, the lowest
--     bit_at_lem              each bit is the one it was filled with
--     bit_in_lem              and so is each bit of a table
--     set_is                  a bit is set exactly where its test is true
--     road_set, first_set     and so is one of a sheet
--     bits_step, bits_fit     a turn of the loop that fills a word
use Rattle.std.proofs.Common.{◌≡◌, ℕ, zero, suc, ◌+◌, ◌-◌, ◌*◌, ◌/◌, ◌%◌, ◌^◌, ◌<◌, ◌≤◌, Bool, true, false, eqb, List, sym, refl, ap, ◌∙◌, pow-suc, arith, pow_mono}
use Rattle.std.proofs.lemmas.Nat.{div-mul-add, mod_below, mod-mul-add, shr-shr}
use Rattle.std.specs.Int.{from_bool}
use Rattle.book.specs.Sheets.{Filled, bit_in, bits_from, first_test, road_test}
use Rattle.book.specs.declared.sheet.Sheet.{Sheet}

pub bit_lt : (b : Bool) → from_bool b < 2
bit_lt true = omega arith
bit_lt false = omega arith

pub bits_none : (f : ℕ → Bool) (l : ℕ) → bits_from f l 0 ≡ 0
unfolding bits_from
bits_none f l = refl

pub bits_more : (f : ℕ → Bool) (l n : ℕ) → bits_from f l (suc n) ≡ bits_from f (l + 1) n * 2 + from_bool (f l)
unfolding bits_from
bits_more f l n = refl

pub bit_at_lem : (f : ℕ → Bool) (j n l : ℕ) → j < n → bits_from f l n / 2 ^ j % 2 ≡ from_bool (f (l + j))
bit_at_lem f j zero l h = absurd (omega arith)
bit_at_lem f zero (suc n) l h =
    let e : l + 0 ≡ l = omega arith in
    rw e (omega (arith, bits_more f l n, bit_lt (f l)))
bit_at_lem f (suc j) (suc n) l h =
    let w = bits_from f (l + 1) n in
    let half : bits_from f l (suc n) / 2 ^ 1 ≡ w = omega (arith, bits_more f l n, bit_lt (f l)) in
    let e : 1 + j ≡ suc j = omega arith in
    let moved : l + 1 + j ≡ l + suc j = omega arith in
    ap (λ k. bits_from f l (suc n) / 2 ^ k % 2) (sym e) ∙ ap (λ x. x % 2) (sym (shr-shr (bits_from f l (suc n)) 1 j)) ∙
    ap (λ x. x / 2 ^ j % 2) half ∙ bit_at_lem f j n (l + 1) (omega arith) ∙ ap (λ k. from_bool (f k)) moved

pub bit_in_lem : (f : ℕ → ℕ → Bool) (ws : List ℕ) (q l : ℕ) → Filled f ws → q < 256 → l < 256 → bit_in ws q l ≡ from_bool (f q l)
bit_in_lem f ws q l filled hq hl =
    let k = q * 4 + l / 64 in
    let row : k / 4 ≡ q = div-mul-add q 4 (l / 64) (omega arith) in
    let col : k % 4 ≡ l / 64 = mod-mul-add q 4 (l / 64) (omega arith) in
    let there : k % 4 * 64 + l % 64 ≡ l = omega (arith, col) in
    ap (λ w. w / 2 ^ (l % 64) % 2) (filled k (omega arith)) ∙
    bit_at_lem (f (k / 4)) (l % 64) 64 (k % 4 * 64) (mod_below l 64 (omega arith)) ∙
    ap (λ x. from_bool (f (k / 4) x)) there ∙ ap (λ x. from_bool (f x l)) row

-- a word is filled from its highest bit down: at bit i those above it are there
module _ (i : ℕ) (pos : 0 < i) (le : i ≤ 64) where
  pub bits_step : (f : ℕ → Bool) (from : ℕ) → bits_from f (from + (i - 1)) (64 - (i - 1)) ≡ bits_from f (from + i) (64 - i) * 2 + from_bool (f (from + (i - 1)))
  bits_step f from =
      let more : 64 - (i - 1) ≡ suc (64 - i) = omega arith in
      let up : from + (i - 1) + 1 ≡ from + i = omega arith in
      ap (bits_from f (from + (i - 1))) more ∙ bits_more f (from + (i - 1)) (64 - i) ∙
      ap (λ l. bits_from f l (64 - i) * 2 + from_bool (f (from + (i - 1)))) up

  pub bits_fit : (w : ℕ) (b : Bool) → w < 2 ^ (64 - i) → (w * 2 + from_bool b < 2 ^ (64 - (i - 1))) × (2 ^ (64 - (i - 1)) ≤ 2 ^ 64)
  bits_fit w b h =
      let more : 64 - (i - 1) ≡ suc (64 - i) = omega arith in
      let within : 64 - (i - 1) ≤ 64 = omega arith in
      (omega (arith, bit_lt b, ap (λ k. 2 ^ k) more, pow-suc 2 (64 - i)), pow_mono within)

bit_test : (b : Bool) → eqb (from_bool b) 1 ≡ b
bit_test true = refl
bit_test false = refl

pub set_is : (f : ℕ → ℕ → Bool) (ws : List ℕ) (q l : ℕ) → Filled f ws → q < 256 → l < 256 → eqb (bit_in ws q l) 1 ≡ f q l
set_is f ws q l filled hq hl = ap (λ x. eqb x 1) (bit_in_lem f ws q l filled hq hl) ∙ bit_test (f q l)

module _ (s : Sheet) (q l : ℕ) (hq : q < 256) (hl : l < 256) where
  pub road_set : eqb (bit_in s.roads q l) 1 ≡ road_test s.plan q l
  road_set = set_is (road_test s.plan) s.roads q l s.filled hq hl

  pub first_set : eqb (bit_in s.firsts q l) 1 ≡ first_test s.plan q l
  first_set = set_is (first_test s.plan) s.firsts q l s.sided hq hl

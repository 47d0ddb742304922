-- Bits that are written to the front of a buffer become the bytes that hold them.
--     front bits old    those bytes, and behind them what the buffer held
--     front_push        one bit more at the end
--     put_front         all bits, one behind the other
use Rattle.std.proofs.Common.{◌≡◌, ℕ, suc, ◌+◌, ◌-◌, ◌*◌, ◌/◌, ◌%◌, ◌^◌, ◌<◌, ◌≤◌, cond, eqb, List, [], ◌∷◌, ◌++◌, map, length, get_or, drop, set, sym, ap, ◌∙◌, subst, ⊎_elim, mul_assoc, add-mul, pow-suc, zero-mul, arith}
use lib.Bits.{bit_or}
use Rattle.std.specs.List.{range_with_len}
use Rattle.std.proofs.lemmas.Nat.{or_shifted, shl_below}
use Rattle.std.proofs.lemmas.List.FromFn.{length-map-range_with_len, map-range_with_len_more}
use Rattle.std.proofs.lemmas.List.{append_assoc, append-nil, drop_more, get_or_append_left, get_or_at, get_or_push, length_push, set_at}
use Rattle.std.proofs.lemmas.Bool.{cases_eq, cond-false, cond-true, eq-eqb, ne_eqb}
use Rattle.plan.specs.Bits.{whole_bytes}
use Rattle.plan.specs.Packed.{byte_at, bytes_of, number_at}
use Rattle.plan.specs.Writes.{put_bit, put_bits}
use Rattle.plan.proofs.Digits.{Binary}
use Rattle.plan.proofs.Octets.{number_more, number_none, number_past, number_same, row_same}

unfoldable pub front : List ℕ → List ℕ → List ℕ
front bits old = bytes_of bits ++ drop (whole_bytes (length bits)) old

module _ (pre old : List ℕ) (b : ℕ) where
  abbrev k : ℕ
  k = length pre / 8

  abbrev r : ℕ
  r = length pre % 8

  abbrev more : List ℕ
  more = pre ++ (b ∷ [])

  abbrev rows : List ℕ
  rows = map (byte_at pre) (range_with_len 0 k)

  -- the byte that the next bit belongs to holds the bits before it, and zero bits
  begun : number_at pre (8 * k) 8 ≡ number_at pre (8 * k) r * 2 ^ (8 - r)
  begun = (let e : 8 ≡ r + (8 - r) = omega arith in ap (number_at pre (8 * k)) e) ∙ number_past pre (8 * k) r (8 - r) (omega arith)

  rows_more : rows ≡ map (byte_at more) (range_with_len 0 k)
  rows_more =
      row_same (byte_at pre) (byte_at more) k (λ j h. number_same pre more (8 * j) 8 (λ i less. sym (get_or_append_left pre (b ∷ []) 0 (8 * j + i) (omega arith))))

  bytes_more : bytes_of more ≡ rows ++ (byte_at more k ∷ [])
  unfolding bytes_of
  bytes_more =
      let e : whole_bytes (length more) ≡ k + 1 = omega (arith, length_push pre b) in
      ap (λ n. map (byte_at more) (range_with_len 0 n)) e ∙ map-range_with_len_more (byte_at more) 0 k k (omega arith) ∙ ap (λ xs. xs ++ (byte_at more k ∷ [])) (sym rows_more)

  -- the byte with the next bit in it
  next : byte_at more k ≡ number_at pre (8 * k) r * 2 ^ (8 - r) + b * 2 ^ (7 - r)
  next =
      let n = number_at pre (8 * k) r in
      let p = 2 ^ (7 - r) in
      let e : 8 ≡ r + 1 + (7 - r) = omega arith in
      let f : 8 - r ≡ suc (7 - r) = omega arith in
      let long = length_push pre b in
      let same = number_same more pre (8 * k) r (λ j h. get_or_append_left pre (b ∷ []) 0 (8 * k + j) (omega arith)) in
      let last : get_or more (8 * k + r) 0 ≡ b = get_or_push pre b 0 (8 * k + r) (omega arith) in
      let double : n * 2 * p ≡ n * 2 ^ (8 - r) = mul_assoc n 2 p ∙ ap (λ x. n * x) (omega (arith, pow-suc 2 (7 - r), ap (λ x. 2 ^ x) f)) in
      ap (number_at more (8 * k)) e ∙ number_past more (8 * k) (r + 1) (7 - r) (omega arith) ∙
      ap (λ x. x * p) (number_more more (8 * k) r ∙ ap (λ x. x * 2 + get_or more (8 * k + r) 0) same ∙ ap (λ x. n * 2 + x) last) ∙
      add-mul (n * 2) b p ∙ ap (λ x. x + b * p) double

  put_in : b < 2 → bit_or (number_at pre (8 * k) r * 2 ^ (8 - r)) (b * 2 ^ (7 - r)) ≡ byte_at more k
  put_in small =
      let f : 1 + (7 - r) ≡ 8 - r = omega arith in
      let below : b * 2 ^ (7 - r) < 2 ^ (8 - r) = subst (λ x. b * 2 ^ (7 - r) < 2 ^ x) f (shl_below b 1 (7 - r) (omega arith)) in
      or_shifted (number_at pre (8 * k) r) (8 - r) (b * 2 ^ (7 - r)) below ∙ sym next

  -- with what stands at the place of the next bit's byte, x, the buffer is known there
  put_at : (x : ℕ) → front pre old ≡ rows ++ (x ∷ drop (k + 1) old) → cond (eqb r 0) 0 x ≡ number_at pre (8 * k) r * 2 ^ (8 - r) → b < 2 → put_bit (front pre old) (length pre) b ≡ front more old
  unfolding front
  put_at x e known small =
      let rest = drop (k + 1) old in
      let long = length-map-range_with_len (byte_at pre) 0 k in
      let v = b * 2 ^ (7 - r) in
      let whole : whole_bytes (length more) ≡ k + 1 = omega (arith, length_push pre b) in
      ap (λ xs. set xs k (bit_or (cond (eqb r 0) 0 (get_or xs k 0)) v)) e ∙
      ap (λ y. set (rows ++ (x ∷ rest)) k (bit_or (cond (eqb r 0) 0 y) v)) (get_or_at rows x rest 0 k long) ∙
      ap (λ y. set (rows ++ (x ∷ rest)) k (bit_or y v)) known ∙ ap (set (rows ++ (x ∷ rest)) k) (put_in small) ∙
      set_at rows x rest (byte_at more k) k long ∙ sym (append_assoc rows (byte_at more k ∷ []) rest) ∙
      ap (λ xs. xs ++ rest) (sym bytes_more) ∙ ap (λ n. bytes_of more ++ drop n old) (sym whole)

  pub front_push : b < 2 → whole_bytes (length pre + 1) ≤ length old → put_bit (front pre old) (length pre) b ≡ front more old
  unfolding front bytes_of
  front_push small fits =
      ⊎_elim
      (λ e. let whole : whole_bytes (length pre) ≡ k = omega arith in
      let x = get_or old k 0 in
      put_at x
      (ap (λ n. map (byte_at pre) (range_with_len 0 n) ++ drop n old) whole ∙ ap (λ xs. rows ++ xs) (drop_more old k 0 (omega arith)))
      (cond-true (eqb r 0) 0 x (eq-eqb r 0 e) ∙ sym (ap (λ j. number_at pre (8 * k) j * 2 ^ (8 - r)) e ∙ ap (λ n. n * 2 ^ (8 - r)) (number_none pre (8 * k)) ∙ zero-mul (2 ^ (8 - r))))
      small)
      (λ ne. let whole : whole_bytes (length pre) ≡ k + 1 = omega (arith, ne) in
      let x = byte_at pre k in
      put_at x
      (ap (λ n. map (byte_at pre) (range_with_len 0 n) ++ drop n old) whole ∙ ap (λ xs. xs ++ drop (k + 1) old) (map-range_with_len_more (byte_at pre) 0 k k (omega arith)) ∙ append_assoc rows (x ∷ []) (drop (k + 1) old))
      (cond-false (eqb r 0) 0 x (ne_eqb r 0 ne) ∙ begun)
      small)
      (cases_eq r 0)

put_rest : (pre old rest : List ℕ) → Binary rest → whole_bytes (length pre + length rest) ≤ length old → put_bits (front pre old) (length pre) rest ≡ front (pre ++ rest) old
unfolding put_bits
put_rest pre old [] all fits = ap (λ xs. front xs old) (sym (append-nil pre))
put_rest pre old (b ∷ rest) (small, all) fits =
    let more = pre ++ (b ∷ []) in
    let long = length_push pre b in
    ap (λ xs. put_bits xs (length pre + 1) rest) (front_push pre old b small (omega arith)) ∙
    ap (λ n. put_bits (front more old) n rest) (sym long) ∙ put_rest more old rest all (omega arith) ∙ ap (λ xs. front xs old) (append_assoc pre (b ∷ []) rest)

pub put_front : (bits old : List ℕ) → Binary bits → whole_bytes (length bits) ≤ length old → put_bits old 0 bits ≡ bytes_of bits ++ drop (whole_bytes (length bits)) old
unfolding front bytes_of
put_front bits old all fits =
    let e : 0 + length bits ≡ length bits = omega arith in
    put_rest [] old bits all (subst (λ n. whole_bytes n ≤ length old) (sym e) fits)

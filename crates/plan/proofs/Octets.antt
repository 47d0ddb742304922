-- Bytes that hold bits, eight to a byte.
--     number_more        the number in one bit more
--     number_same        equal bits are equal numbers
--     number_past        behind the end only zero bits follow
--     number_bit         a bit of a number of bits
--     number_bits_lem    the bits of a number give that number
--     length_bytes       how many bytes hold so many bits
--     bit_of_bytes       the bits of the bytes are those that they were made from
--     row_same           rows made from equal parts are equal
use Rattle.std.proofs.Common.{◌≡◌, ℕ, zero, suc, ◌+◌, ◌-◌, ◌*◌, ◌/◌, ◌%◌, ◌^◌, ◌<◌, ◌≤◌, List, [], ◌∷◌, ◌++◌, map, length, get_or, sym, refl, ap, ◌∙◌, ⊎_elim, mul_assoc, pow-suc, mul-one, div-one, add-one, arith}
use Rattle.std.specs.List.{range_with_len}
use Rattle.std.proofs.lemmas.Nat.{div-mul-add, mod-mul-add, shr-shr}
use Rattle.std.proofs.lemmas.List.FromFn.{fill_by_all, get_or-map-range_with_len, length-map-range_with_len}
use Rattle.std.proofs.ByRecursion.{All-get_or}
use Rattle.std.proofs.lemmas.List.{get_or_append_left, get_or_past, get_or_push}
use Rattle.std.proofs.lemmas.Bool.{cases_eq, cases_lt}
use Rattle.plan.specs.Bits.{bit_at, whole_bytes}
use Rattle.plan.specs.Packed.{byte_at, bytes_of, number_at, number_bits}
use Rattle.plan.proofs.Digits.{Binary, bits_more, length_bits}

pub binary_at : (bits : List ℕ) (j : ℕ) → Binary bits → get_or bits j 0 < 2
binary_at bits j all =
    ⊎_elim (λ h. All-get_or (λ b. b < 2) bits j 0 h all) (λ h. omega (arith, get_or_past bits j 0 h)) (cases_lt j (length bits))

pub number_none : (bits : List ℕ) (i : ℕ) → number_at bits i 0 ≡ 0
unfolding number_at
number_none bits i = refl

pub number_more : (bits : List ℕ) (i w : ℕ) → number_at bits i (w + 1) ≡ number_at bits i w * 2 + get_or bits (i + w) 0
unfolding number_at
number_more bits i w = rw (add-one w)

pub number_same : (xs ys : List ℕ) (i w : ℕ) → ((j : ℕ) → j < w → get_or xs (i + j) 0 ≡ get_or ys (i + j) 0) → number_at xs i w ≡ number_at ys i w
unfolding number_at
number_same xs ys i zero same = refl
number_same xs ys i (suc w) same =
    ap (λ n. n * 2 + get_or xs (i + w) 0) (number_same xs ys i w (λ j h. same j (omega arith))) ∙ ap (λ b. number_at ys i w * 2 + b) (same w (omega arith))

pub number_past : (xs : List ℕ) (i r z : ℕ) → length xs ≤ i + r → number_at xs i (r + z) ≡ number_at xs i r * 2 ^ z
number_past xs i r zero past = (let e : r + 0 ≡ r = omega arith in ap (number_at xs i) e) ∙ sym (mul-one (number_at xs i r))
number_past xs i r (suc z) past =
    let n = number_at xs i r in
    let e : r + suc z ≡ r + z + 1 = omega arith in
    let b : get_or xs (i + (r + z)) 0 ≡ 0 = get_or_past xs (i + (r + z)) 0 (omega arith) in
    let step : number_at xs i (r + z) * 2 + get_or xs (i + (r + z)) 0 ≡ n * 2 ^ z * 2 = omega (arith, number_past xs i r z past, b) in
    ap (number_at xs i) e ∙ number_more xs i (r + z) ∙ step ∙ mul_assoc n (2 ^ z) 2 ∙ ap (λ k. n * k) (sym (pow-suc 2 z))

pub number_bit : (bits : List ℕ) (i w j : ℕ) → Binary bits → j < w → number_at bits i w / 2 ^ (w - 1 - j) % 2 ≡ get_or bits (i + j) 0
number_bit bits i zero j all h = absurd (omega arith)
number_bit bits i (suc w) j all h =
    let n = number_at bits i w in
    let b = get_or bits (i + w) 0 in
    let small : b < 2 = binary_at bits (i + w) all in
    let s : suc w ≡ w + 1 = omega arith in
    let more = ap (number_at bits i) s ∙ number_more bits i w in
    ⊎_elim
    (λ e. let z : suc w - 1 - j ≡ 0 = omega arith in
    ap (λ k. number_at bits i (suc w) / 2 ^ k % 2) z ∙ ap (λ k. k % 2) (div-one (number_at bits i (suc w)) ∙ more) ∙ mod-mul-add n 2 b small ∙ ap (λ k. get_or bits (i + k) 0) (sym e))
    (λ ne. let less : j < w = omega (arith, ne) in
    let k = w - 1 - j in
    let z : suc w - 1 - j ≡ 1 + k = omega arith in
    ap (λ x. number_at bits i (suc w) / 2 ^ x % 2) z ∙ ap (λ x. x / 2 ^ (1 + k) % 2) more ∙ ap (λ x. x % 2) (sym (shr-shr (n * 2 + b) 1 k)) ∙
    ap (λ x. x / 2 ^ k % 2) (div-mul-add n 2 b small) ∙ number_bit bits i w j all less)
    (cases_eq j w)

pub number_bits_lem : (w v : ℕ) → v < 2 ^ w → number_at (number_bits w v) 0 w ≡ v
number_bits_lem zero v h = number_none (number_bits 0 v) 0 ∙ omega arith
number_bits_lem (suc w) v h =
    let front = number_bits w (v / 2) in
    let whole = front ++ (v % 2 ∷ []) in
    let s : suc w ≡ w + 1 = omega arith in
    let long = length_bits w (v / 2) in
    let rest : v / 2 < 2 ^ w = omega (arith, pow-suc 2 w) in
    let same = number_same whole front 0 w (λ j less. get_or_append_left front (v % 2 ∷ []) 0 (0 + j) (omega (arith, long))) in
    let last : get_or whole (0 + w) 0 ≡ v % 2 = get_or_push front (v % 2) 0 (0 + w) (omega (arith, long)) in
    ap (λ k. number_at (number_bits k v) 0 k) s ∙ ap (λ xs. number_at xs 0 (w + 1)) (bits_more w v) ∙ number_more whole 0 w ∙
    ap (λ n. n * 2 + get_or whole (0 + w) 0) (same ∙ number_bits_lem w (v / 2) rest) ∙ ap (λ b. v / 2 * 2 + b) last ∙ omega arith

pub length_bytes : (bits : List ℕ) → length (bytes_of bits) ≡ whole_bytes (length bits)
unfolding bytes_of
length_bytes bits = length-map-range_with_len (byte_at bits) 0 (whole_bytes (length bits))

pub byte_of_bytes : (bits : List ℕ) (k : ℕ) → k < whole_bytes (length bits) → get_or (bytes_of bits) k 0 ≡ byte_at bits k
unfolding bytes_of
byte_of_bytes bits k h = get_or-map-range_with_len (byte_at bits) 0 (whole_bytes (length bits)) k k 0 h (omega arith)

pub bit_of_bytes : (bits : List ℕ) (i : ℕ) → Binary bits → i < 8 * whole_bytes (length bits) → bit_at (bytes_of bits) i ≡ get_or bits i 0
bit_of_bytes bits i all h =
    let k = i / 8 in
    let e : 8 * k + i % 8 ≡ i = omega arith in
    ap (λ b. b / 2 ^ (7 - i % 8) % 2) (byte_of_bytes bits k (omega arith)) ∙ number_bit bits (8 * k) 8 (i % 8) all (omega arith) ∙ ap (λ j. get_or bits j 0) e

pub row_same : (f g : ℕ → ℕ) (n : ℕ) → ((j : ℕ) → j < n → f j ≡ g j) → map f (range_with_len 0 n) ≡ map g (range_with_len 0 n)
row_same f g n same =
    fill_by_all g (map f (range_with_len 0 n)) n 0 (length-map-range_with_len f 0 n) (λ j h. get_or-map-range_with_len f 0 n j j 0 h (omega arith) ∙ same j h)

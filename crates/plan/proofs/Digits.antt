-- The bits of a number, the most significant first.
--     bits_none, bits_more    a number in no bits, and in one bit more
--     length_bits             so many bits as were asked for
--     bits_binary             each of them is 0 or 1
--     bits_next               the first bits of a number are those of what is left when the others are shifted out
use Rattle.std.proofs.Common.{◌≡◌, ℕ, zero, suc, ◌+◌, ◌-◌, ◌/◌, ◌%◌, ◌^◌, ◌<◌, ◌≤◌, List, [], ◌∷◌, ◌++◌, length, refl, ap, ◌∙◌, add-one, arith}
use Rattle.std.specs.List.{AllByRecursion}
use Rattle.std.proofs.lemmas.Nat.{mod_below, shr-shr}
use Rattle.std.proofs.ByRecursion.{All-push}
use Rattle.std.proofs.lemmas.List.{length_push}
use Rattle.plan.specs.Packed.{number_bits}

abbrev pub Binary : List ℕ → Type 0
Binary bits = AllByRecursion (λ b. b < 2) bits

pub bits_none : (v : ℕ) → number_bits 0 v ≡ []
unfolding number_bits
bits_none v = refl

pub bits_more : (w v : ℕ) → number_bits (w + 1) v ≡ number_bits w (v / 2) ++ (v % 2 ∷ [])
unfolding number_bits
bits_more w v = rw (add-one w)

pub length_bits : (w v : ℕ) → length (number_bits w v) ≡ w
unfolding number_bits
length_bits zero v = refl
length_bits (suc w) v = length_push (number_bits w (v / 2)) (v % 2) ∙ ap (λ k. k + 1) (length_bits w (v / 2)) ∙ add-one w

pub bits_binary : (w v : ℕ) → Binary (number_bits w v)
unfolding number_bits
bits_binary zero v = tt
bits_binary (suc w) v = All-push (λ b. b < 2) (number_bits w (v / 2)) (v % 2) (bits_binary w (v / 2)) (mod_below v 2 (omega arith))

-- all but the last p of the w bits of v, and one more of them
pub bits_next : (w p v : ℕ) → 0 < p → p ≤ w → number_bits (w - (p - 1)) (v / 2 ^ (p - 1)) ≡ number_bits (w - p) (v / 2 ^ p) ++ (v / 2 ^ (p - 1) % 2 ∷ [])
bits_next w p v pos most =
    let k = p - 1 in
    let e : w - k ≡ w - p + 1 = omega arith in
    let f : k + 1 ≡ p = omega arith in
    ap (λ j. number_bits j (v / 2 ^ k)) e ∙ bits_more (w - p) (v / 2 ^ k) ∙
    ap (λ x. number_bits (w - p) x ++ (v / 2 ^ k % 2 ∷ [])) (shr-shr v k 1 ∙ ap (λ j. v / 2 ^ j) f)

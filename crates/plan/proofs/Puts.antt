-- Writing bits into bytes, one behind the other.
--     put_append                            two lists one behind the other
--     length_put                            no byte comes or goes
--     wrote_none, wrote_more, wrote_same    what was written, when more is
--     room_after, room_within               the room that is left then
--     shifted_bit                           a bit shifted to its place stays within its byte
use Rattle.std.proofs.Common.{◌≡◌, ℕ, ◌+◌, ◌-◌, ◌*◌, ◌/◌, ◌%◌, ◌^◌, ◌<◌, ◌≤◌, List, [], ◌∷◌, ◌++◌, length, sym, refl, ap, ◌∙◌, subst, add-zero, arith}
use Rattle.std.proofs.lemmas.Nat.{shl_whole}
use Rattle.std.proofs.lemmas.List.{length-append, length-set}
use Rattle.plan.specs.Writes.{put_bit, put_bits, Room, Wrote}
use Rattle.plan.specs.declared.bit_writer.BitWriter.{BitWriter}

pub put_append : (bs : List ℕ) (i : ℕ) (xs ys : List ℕ) → put_bits bs i (xs ++ ys) ≡ put_bits (put_bits bs i xs) (i + length xs) ys
unfolding put_bits
put_append bs i [] ys = ap (λ k. put_bits bs k ys) (sym (add-zero i))
put_append bs i (x ∷ xs) ys =
    let e : i + 1 + length xs ≡ i + length (x ∷ xs) = omega arith in
    put_append (put_bit bs i x) (i + 1) xs ys ∙ ap (λ k. put_bits (put_bits (put_bit bs i x) (i + 1) xs) k ys) e

pub length_put : (bs : List ℕ) (i : ℕ) (bits : List ℕ) → length (put_bits bs i bits) ≡ length bs
unfolding put_bits
length_put bs i [] = refl
length_put bs i (b ∷ rest) = length_put (put_bit bs i b) (i + 1) rest ∙ length-set bs (i / 8) _

pub wrote_none : (s : BitWriter) → Wrote s s []
unfolding put_bits
wrote_none s = record { bytes = refl; place = omega arith; lent = refl }

pub wrote_more : {r s t : BitWriter} {xs ys : List ℕ} → Wrote r s xs → Wrote s t ys → Wrote r t (xs ++ ys)
wrote_more {r} {s} {t} {xs} {ys} v w = record {
  bytes = w.bytes ∙ ap (λ bs. put_bits bs s.at ys) v.bytes ∙ ap (λ i. put_bits (put_bits r.bytes.now r.at xs) i ys) v.place ∙ sym (put_append r.bytes.now r.at xs ys);
  place = omega (arith, v.place, w.place, length-append xs ys);
  lent = w.lent ∙ v.lent;
}

pub wrote_same : {s t : BitWriter} {xs ys : List ℕ} → Wrote s t xs → xs ≡ ys → Wrote s t ys
wrote_same {s} {t} w e = subst (λ xs. Wrote s t xs) e w

pub room_after : {s t : BitWriter} {bits : List ℕ} {m n : ℕ} → Wrote s t bits → Room s m → length bits + n ≤ m → Room t n
room_after {s} {t} {bits} w r fits =
    let long = ap length w.bytes ∙ length_put s.bytes.now s.at bits in
    record { early = omega (arith, w.place, r.early); within = omega (arith, long, w.place, r.within) }

pub room_within : {s : BitWriter} {m n : ℕ} → Room s m → n ≤ m → Room s n
room_within r fits = record { early = omega (arith, r.early); within = omega (arith, r.within) }

pub shifted_bit : (b i : ℕ) → b < 2 → (b * 2 ^ (7 - i % 8)) % 256 ≡ b * 2 ^ (7 - i % 8)
shifted_bit b i h = shl_whole b 1 (7 - i % 8) 8 (omega arith) (omega arith)

-- What bits that are written leave in the bytes.
--     put_bit bs i b          bit b at place i: its byte is cleared at the first bit, and the bit put in
--     put_bits bs i bits      a list of bits from place i on
--     Room s n                the writer s has room for n more bits
--     Wrote s t bits          that list was written: the writer s became t, at the same lent bytes
--     Packs p old new r       what packing a plan leaves in a buffer, and what it answers
use Rattle.std.specs.Prelude.{◌≡◌, ℕ, ◌+◌, ◌-◌, ◌*◌, ◌/◌, ◌%◌, ◌^◌, ◌<◌, ◌≤◌, cond, List, [], ◌∷◌, ◌++◌, length, drop, Result, MatchResult, ◌==◌, bit_or, slice_index, slice_set}
use Rattle.plan.specs.Packed.{packed}
use Rattle.plan.specs.declared.bit_writer.BitWriter.{BitWriter}
use Rattle.plan.specs.declared.fault.BitsFault.{BitsFault}
use Rattle.plan.specs.declared.fault.BitsFault.TheVariants.{BufferTooSmall}
use Rattle.plan.specs.declared.shape.Plan.{Plan}

abbrev pub put_bit : List ℕ → ℕ → ℕ → List ℕ
put_bit bs i b = slice_set bs (i / 8) (bit_or (cond (i % 8 == 0) 0 (slice_index bs (i / 8))) (b * 2 ^ (7 - i % 8)))

unfoldable pub put_bits : List ℕ → ℕ → List ℕ → List ℕ
put_bits bs i [] = bs
put_bits bs i (b ∷ rest) = put_bits (put_bit bs i b) (i + 1) rest

pub record Room (s : BitWriter) (n : ℕ) : Type 0 where
  pub early : s.at + n < 2 ^ 32
  pub within : s.at + n ≤ 8 * length s.bytes.now

pub record Wrote (s t : BitWriter) (bits : List ℕ) : Type 0 where
  pub bytes : t.bytes.now ≡ put_bits s.bytes.now s.at bits
  pub place : t.at ≡ s.at + length bits
  pub lent : t.bytes.ghost_name ≡ s.bytes.ghost_name

-- the bytes stand in front and what was behind them stays; or the buffer is too small, and stays as it was
abbrev pub Packs : Plan → List ℕ → List ℕ → Result ℕ BitsFault → Type 0
Packs p old new r = MatchResult r (λ n. (n ≡ length (packed p)) × (new ≡ packed p ++ drop n old)) (λ f. (f ≡ BufferTooSmall (length (packed p))) × (length old < length (packed p)) × (new ≡ old))

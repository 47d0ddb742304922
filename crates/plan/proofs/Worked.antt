-- The plans worked by hand, by evaluation.
--     samples_shown      each has the bytes that are shown
--     damaged_refused    the damaged file is refused at bit 31
use Rattle.std.proofs.Common.{◌≡◌, ℕ, ◌<◌, ◌≤◌, List, sym, refl, subst, inl, ⊎_elim, arith}
use Rattle.std.specs.List.{AllByRecursion}
use Rattle.std.proofs.lemmas.Bool.{cases_eq}
use Rattle.plan.specs.Bits.{bit_at, field_at, Zeros}
use Rattle.plan.specs.Layout.{width_for, width_from, Refuses}
use Rattle.plan.specs.Packed.{bytes_of, number_at, number_bits}
use Rattle.plan.specs.Samples.{damaged, samples, PacksAsShown}
use Rattle.plan.specs.declared.fault.BitsFault.TheVariants.{Surplus}
use Rattle.plan.specs.declared.fault.PlanFault.TheVariants.{Bits}

pub samples_shown : AllByRecursion PacksAsShown samples
unfolding bytes_of number_at number_bits width_for width_from
samples_shown = (refl, (refl, tt))

-- one place less, where its bit is known
past : (bs : List ℕ) (i k : ℕ) → bit_at bs i ≡ 0 → i ≤ k → ((i < k) → bit_at bs k ≡ 0) → bit_at bs k ≡ 0
past bs i k zero le rest = ⊎_elim (λ e. subst (λ n. bit_at bs n ≡ 0) (sym e) zero) (λ ne. rest (omega (arith, ne))) (cases_eq k i)

damaged_zeros : Zeros damaged 26 31
damaged_zeros k low high =
    past damaged 26 k refl low (λ a. past damaged 27 k refl a (λ b. past damaged 28 k refl b (λ c. past damaged 29 k refl c (λ d. past damaged 30 k refl d (λ e. absurd (omega arith))))))

pub damaged_refused : Refuses damaged (Bits (Surplus 31))
unfolding field_at width_for width_from
damaged_refused = (
  ((((omega arith, (omega arith, omega arith, omega arith)), omega arith), λ u pos small. absurd (omega arith)), λ q none. absurd (omega arith)),
  (omega arith, damaged_zeros, inl (omega arith, refl)),
)

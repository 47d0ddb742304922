-- The lowest number that a test has.
--     lowest_none    where there is none, each number fails the test
--     lowest_some    where there is one, it passes and each lower number fails
use Rattle.std.proofs.Common.{◌≡◌, ℕ, zero, suc, ◌+◌, ◌<◌, ◌≤◌, Bool, true, false, Some, None, sym, ap, ◌∙◌, ⊎_elim, arith}
use Rattle.std.proofs.lemmas.Bool.{cases_Bool, cases_eq, cond-false, cond-true}
use Rattle.std.proofs.lemmas.Option.{none-some, same_Some}
use Rattle.std.specs.List.{find, range_with_len}
use Rattle.rough.specs.Outcome.{lowest}

module _ (f : ℕ → Bool) where
  none_from : (a n : ℕ) → find f (range_with_len a n) ≡ None → (p : ℕ) → a ≤ p → p < a + n → f p ≡ false
  none_from a zero e p le lt = absurd (omega arith)
  none_from a (suc n) e p le lt =
      let rest = find f (range_with_len (a + 1) n) in
      ⊎_elim
      (λ h. absurd (none-some a (sym e ∙ cond-true (f a) (Some a) rest h)))
      (λ h. ⊎_elim (λ is. ap f is ∙ h) (λ ne. none_from (a + 1) n (sym (cond-false (f a) (Some a) rest h) ∙ e) p (omega (arith, ne)) (omega arith)) (cases_eq p a))
      (cases_Bool (f a))

  some_from : (a n p : ℕ) → find f (range_with_len a n) ≡ Some p → (f p ≡ true) × ((q : ℕ) → a ≤ q → q < p → f q ≡ false)
  some_from a zero p e = absurd (none-some p e)
  some_from a (suc n) p e =
      let rest = find f (range_with_len (a + 1) n) in
      ⊎_elim
      (λ h.
      let is = same_Some a p (sym (cond-true (f a) (Some a) rest h) ∙ e) in
      (ap f (sym is) ∙ h, λ q le lt. absurd (omega arith)))
      (λ h.
      let (here, below) = some_from (a + 1) n p (sym (cond-false (f a) (Some a) rest h) ∙ e) in
      (here, λ q le lt. ⊎_elim (λ is. ap f is ∙ h) (λ ne. below q (omega (arith, ne)) lt) (cases_eq q a)))
      (cases_Bool (f a))

  pub lowest_none : (n : ℕ) → lowest f n ≡ None → (p : ℕ) → p < n → f p ≡ false
  lowest_none n e p lt = none_from 0 n e p (omega arith) (omega arith)

  pub lowest_some : (n p : ℕ) → lowest f n ≡ Some p → (f p ≡ true) × ((q : ℕ) → q < p → f q ≡ false)
  lowest_some n p e = let (here, below) = some_from 0 n p e in (here, λ q lt. below q (omega arith) lt)

-- Arrays that agree with a function.
--     fill_all    each place does, and behind the array the function is the default
use Rattle.std.proofs.Common.{◌≡◌, ℕ, ◌<◌, ◌≤◌, List, length, get_or, sym, ◌∙◌, ⊎_elim, arith}
use Rattle.std.proofs.lemmas.List.{get_or_past}
use Rattle.std.proofs.lemmas.Bool.{cases_lt}

module _ {X : Type 0} (f : ℕ → X) (d : X) where
  pub fill_all :
      (xs : List X) (n : ℕ) → length xs ≡ n → ((k : ℕ) → k < n → get_or xs k d ≡ f k) → ((k : ℕ) → n ≤ k → f k ≡ d) →
      (k : ℕ) → get_or xs k d ≡ f k
  fill_all xs n long h behind k =
      ⊎_elim (h k) (λ le. get_or_past xs k d (omega arith) ∙ sym (behind k le)) (cases_lt k n)

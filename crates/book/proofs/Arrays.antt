-- Arrays that `array::from_fn` makes with a closure that no call changes.
--     asked_each    what the closure asks of its calls, index by index
--     made_at       at each index stands what the closure answers there
use Rattle.std.proofs.Common.{◌≡◌, ℕ, zero, suc, ◌+◌, ◌<◌, ◌≤◌, List, get_or, sym, refl, ap, ◌∙◌, subst, ⊎_elim, arith}
use Rattle.std.specs.Array.{IsFromFnResult, IsFromFnResultFrom, index_steps}
use Rattle.std.specs.Fn.{Called, Mut}
use Rattle.std.specs.Iterator.{CallableAtEachTurn}
use Rattle.std.proofs.lemmas.Bool.{cases_eq}
use Rattle.std.proofs.lemmas.Fn.{serves_by}

pub asked_each : {P : Type 0} {R : P → ℕ → P → Type 0} {Q : P → ℕ → Type 0} (n : ℕ) (p : P) → ((i : ℕ) (q : P) → R p i q → q ≡ p) → ((i : ℕ) → i < n → Q p i) → CallableAtEachTurn (index_steps n) R Q 0 p
asked_each {P} {R} {Q} n p same at =
    serves_by R (λ xs q. q ≡ p) (λ xs q i v e r. same i v (subst (λ t. R t i v) e r)) (index_steps n) Q 0 p refl
    (λ xs t q i u _ step e. subst (λ r. Q r i) (sym e) (at i (omega (arith, step.0, step.1))))

module _ {F B : Type 0} (g : Mut F (ℕ × Unit {0}) B) (f : F) (h : ℕ → B) where
  -- a call at an index below top gives h of it, and changes no capture
  abbrev Gives : ℕ → Type 0
  Gives top = (i : ℕ) (y : B) (q : F) → i < top → Called g f (i, tt) y q → (q ≡ f) × (y ≡ h i)

  made_from : (ys : List B) (n i : ℕ) → Gives (i + n) → IsFromFnResultFrom g f ys i n → (k : ℕ) (d : B) → i ≤ k → k < i + n → get_or ys k d ≡ h k
  made_from ys zero i answers made k d low high = absurd (omega arith)
  made_from ys (suc n) i answers (q, y, here, call, rest) k d low high =
      let a = answers i y q (omega arith) call in
      ⊎_elim
      (λ e. ap (λ j. get_or ys j d) e ∙ here.1 d ∙ a.1 ∙ ap h (sym e))
      (λ ne. made_from ys n (i + 1) (λ j z r less. answers j z r (omega arith)) (subst (λ r. IsFromFnResultFrom g r ys (i + 1) n) a.0 rest) k d (omega (arith, ne)) (omega arith))
      (cases_eq k i)

  pub made_at : (ys : List B) (n : ℕ) → Gives n → IsFromFnResult g f ys n → (k : ℕ) (d : B) → k < n → get_or ys k d ≡ h k
  made_at ys n answers made k d less = made_from ys n 0 (λ i y q h. answers i y q (omega arith)) made.each k d (omega arith) (omega arith)

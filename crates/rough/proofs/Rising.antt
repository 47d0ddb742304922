-- The numbers below n that a set has, from the lowest up.
--     all_rising        each of them is below n and in the set
--     among_rising      and each such number is among them
--     pairwise_rising   they rise
--     length_rising     they are as many as the set has links, if it has not the number 0
--     rising_push       one number more that the set has
--     rising_skip       and one that it has not
--     rising_short      below n there are at most n
use Rattle.std.proofs.Common.{◌≡◌, ℕ, zero, suc, ◌+◌, ◌<◌, ◌≤◌, true, false, eqb, [], ◌∷◌, ◌++◌, length, sym, refl, ap, ◌∙◌, subst, ⊎_elim, arith}
use Rattle.std.specs.List.{AllByRecursion}
use Rattle.std.proofs.ByRecursion.{All-push, All-weaker}
use Rattle.std.proofs.lemmas.List.{length_push}
use Rattle.std.proofs.lemmas.Bool.{cases_Bool, cases_eq, cond_both, cond-false, cond-true, eq-eqb, or_left, or_right}
use Rattle.cuts.specs.Links.{Links, count}
use Rattle.cuts.specs.Rules.{Pairwise}
use Rattle.plan.proofs.Climbs.{among_push}
use Rattle.plan.specs.Tree.{among}
use Rattle.rough.proofs.Pairs.{pairwise_push}
use Rattle.rough.specs.Run.{rising}

module _ (s : Links) where
  pub all_rising : (n : ℕ) → AllByRecursion (λ x. (x < n) × (s x ≡ true)) (rising s n)
  all_rising zero = tt
  all_rising (suc n) =
      let more : AllByRecursion (λ x. (x < suc n) × (s x ≡ true)) (rising s n) =
      All-weaker (λ x. (x < n) × (s x ≡ true)) (λ x. (x < suc n) × (s x ≡ true)) (λ x (lt, e). (omega arith, e)) (rising s n) (all_rising n) in
      cond_both (s n) (rising s n ++ (n ∷ [])) (rising s n) (AllByRecursion (λ x. (x < suc n) × (s x ≡ true)))
      (λ e. All-push (λ x. (x < suc n) × (s x ≡ true)) (rising s n) n more (omega arith, e))
      (λ _. more)

  pub among_rising : (n x : ℕ) → x < n → s x ≡ true → among x (rising s n) ≡ true
  among_rising zero x lt e = absurd (omega arith)
  among_rising (suc n) x lt e =
      ⊎_elim
      (λ is.
      let here : s n ≡ true = ap s (sym is) ∙ e in
      ap (among x) (cond-true (s n) (rising s n ++ (n ∷ [])) (rising s n) here) ∙
      subst (λ y. among x (rising s n ++ (y ∷ [])) ≡ true) is (among_push x (rising s n) x ∙ or_right (among x (rising s n)) (eqb x x) (eq-eqb x x refl)))
      (λ ne.
      let more : among x (rising s n) ≡ true = among_rising n x (omega (arith, ne)) e in
      cond_both (s n) (rising s n ++ (n ∷ [])) (rising s n) (λ xs. among x xs ≡ true)
      (λ _. among_push x (rising s n) n ∙ or_left (among x (rising s n)) (eqb x n) more)
      (λ _. more))
      (cases_eq x n)

  pub pairwise_rising : (n : ℕ) → Pairwise ◌<◌ (rising s n)
  pairwise_rising zero = tt
  pairwise_rising (suc n) =
      let more = pairwise_rising n in
      cond_both (s n) (rising s n ++ (n ∷ [])) (rising s n) (Pairwise ◌<◌)
      (λ _. pairwise_push ◌<◌ (rising s n) n more (All-weaker (λ x. (x < n) × (s x ≡ true)) (λ x. x < n) (λ x (lt, _). lt) (rising s n) (all_rising n)))
      (λ _. more)

  pub rising_push : (n : ℕ) → s n ≡ true → rising s (suc n) ≡ rising s n ++ (n ∷ [])
  rising_push n e = cond-true (s n) (rising s n ++ (n ∷ [])) (rising s n) e

  pub rising_skip : (n : ℕ) → s n ≡ false → rising s (suc n) ≡ rising s n
  rising_skip n e = cond-false (s n) (rising s n ++ (n ∷ [])) (rising s n) e

  pub length_rising : s 0 ≡ false → (n : ℕ) → length (rising s (suc n)) ≡ count s n
  length_rising e zero = ap length (rising_skip 0 e)
  length_rising e (suc n) =
      let more = length_rising e n in
      ⊎_elim
      (λ h. ap length (rising_push (suc n) h) ∙ length_push (rising s (suc n)) (suc n) ∙ ap (λ k. k + 1) more ∙ sym (cond-true (s (suc n)) (count s n + 1) (count s n) h))
      (λ h. ap length (rising_skip (suc n) h) ∙ more ∙ sym (cond-false (s (suc n)) (count s n + 1) (count s n) h))
      (cases_Bool (s (suc n)))

  pub rising_short : (n : ℕ) → length (rising s n) ≤ n
  rising_short zero = omega arith
  rising_short (suc n) =
      let more = rising_short n in
      cond_both (s n) (rising s n ++ (n ∷ [])) (rising s n) (λ xs. length xs ≤ suc n)
      (λ _. omega (arith, length_push (rising s n) n))
      (λ _. omega arith)

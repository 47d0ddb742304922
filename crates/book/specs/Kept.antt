-- What stands in a list of which some are kept.
--     keeps, passes_over    one element at a time
--     kept_at               what is kept stood in the list, and passes the test
--     kept_order            what is kept stays in its order
--     kept_different        and stands once where it stood once
--     among_kept            to be among what is kept is to pass the test and be among the list
use Rattle.std.specs.Prelude.{◌≡◌, ℕ, zero, suc, ◌≤◌, Bool, true, false, ◌&&◌, ◌||◌, List, [], ◌∷◌, Some, filter, ◌==◌, refl}
use Rattle.std.proofs.Math.Bool.{and-false, and-or_distrib_left}
use Rattle.std.proofs.Common.{⊎_elim, sym, ap, subst, ◌∙◌, arith}
use Rattle.std.specs.List.{slice_get}
use Rattle.std.proofs.lemmas.Bool.{cases_Bool, cases_eq, cond-false, cond-true, ne_eqb}
use Rattle.plan.specs.Tree.{among}
use Rattle.plan.proofs.Members.{none_of_nil}
use Rattle.book.specs.Meaning.{Different}

-- x stands in the list
abbrev pub Stands : List ℕ → ℕ → Type 0
Stands xs x = (j : ℕ) × (slice_get xs j ≡ Some x)

-- x stands in the list, not behind y
abbrev pub InOrder : List ℕ → ℕ → ℕ → Type 0
InOrder xs x y = (i : ℕ) × (j : ℕ) × (i ≤ j) × (slice_get xs i ≡ Some x) × (slice_get xs j ≡ Some y)

module _ (f : ℕ → Bool) where
  pub keeps : (z : ℕ) (zs : List ℕ) → f z ≡ true → filter f (z ∷ zs) ≡ z ∷ filter f zs
  keeps z zs e = cond-true (f z) (z ∷ filter f zs) (filter f zs) e

  pub passes_over : (z : ℕ) (zs : List ℕ) → f z ≡ false → filter f (z ∷ zs) ≡ filter f zs
  passes_over z zs e = cond-false (f z) (z ∷ filter f zs) (filter f zs) e

  -- one more in front of a list
  further : (x z : ℕ) (zs : List ℕ) → Stands zs x → Stands (z ∷ zs) x
  further x z zs s = (suc s.0, s.1)

  stands_here : (z : ℕ) (zs : List ℕ) (x : ℕ) → ((i : ℕ) → slice_get (filter f zs) i ≡ Some x → Stands zs x) → (i : ℕ) → slice_get (z ∷ filter f zs) i ≡ Some x → Stands (z ∷ zs) x
  stands_here z zs x more zero e = (0, e)
  stands_here z zs x more (suc i) e = further x z zs (more i e)

  pub kept_at : (xs : List ℕ) (i x : ℕ) → slice_get (filter f xs) i ≡ Some x → Stands xs x
  kept_at [] i x e = absurd (none_of_nil i x e)
  kept_at (z ∷ zs) i x e =
      ⊎_elim
      (λ t. stands_here z zs x (λ k h. kept_at zs k x h) i (subst (λ ys. slice_get ys i ≡ Some x) (keeps z zs t) e))
      (λ t. further x z zs (kept_at zs i x (subst (λ ys. slice_get ys i ≡ Some x) (passes_over z zs t) e)))
      (cases_Bool (f z))

  order_here : (z : ℕ) (zs : List ℕ) (x y : ℕ) → ((i j : ℕ) → i ≤ j → slice_get (filter f zs) i ≡ Some x → slice_get (filter f zs) j ≡ Some y → InOrder zs x y) → (i j : ℕ) → i ≤ j → slice_get (z ∷ filter f zs) i ≡ Some x → slice_get (z ∷ filter f zs) j ≡ Some y → InOrder (z ∷ zs) x y
  order_here z zs x y more zero j h d e = let r = stands_here z zs y (λ k. kept_at zs k y) j e in (0, r.0, omega arith, d, r.1)
  order_here z zs x y more (suc i) zero h d e = absurd (omega arith)
  order_here z zs x y more (suc i) (suc j) h d e = let r = more i j (omega arith) d e in (suc r.0, suc r.1, omega (arith, r.2), r.3, r.4)

  pub kept_order : (xs : List ℕ) (i j x y : ℕ) → i ≤ j → slice_get (filter f xs) i ≡ Some x → slice_get (filter f xs) j ≡ Some y → InOrder xs x y
  kept_order [] i j x y h d e = absurd (none_of_nil i x d)
  kept_order (z ∷ zs) i j x y h d e =
      ⊎_elim
      (λ t. order_here z zs x y (λ k l g p q. kept_order zs k l x y g p q) i j h (subst (λ ys. slice_get ys i ≡ Some x) (keeps z zs t) d) (subst (λ ys. slice_get ys j ≡ Some y) (keeps z zs t) e))
      (λ t. let r = kept_order zs i j x y h (subst (λ ys. slice_get ys i ≡ Some x) (passes_over z zs t) d) (subst (λ ys. slice_get ys j ≡ Some y) (passes_over z zs t) e) in (suc r.0, suc r.1, omega (arith, r.2), r.3, r.4))
      (cases_Bool (f z))

  -- the rest of a list of different numbers has different numbers
  pub different_rest : (z : ℕ) (zs : List ℕ) → Different (z ∷ zs) → Different zs
  different_rest z zs d i j x p q = let h : suc i ≡ suc j = d (suc i) (suc j) x p q in omega arith

  different_here : (z : ℕ) (zs : List ℕ) → Different (z ∷ zs) → Different (filter f zs) → Different (z ∷ filter f zs)
  different_here z zs d more zero zero x p q = refl
  different_here z zs d more zero (suc j) x p q = let r = kept_at zs j x q in let h : 0 ≡ suc r.0 = d 0 (suc r.0) x p r.1 in absurd (omega arith)
  different_here z zs d more (suc i) zero x p q = let r = kept_at zs i x p in let h : suc r.0 ≡ 0 = d (suc r.0) 0 x r.1 q in absurd (omega arith)
  different_here z zs d more (suc i) (suc j) x p q = ap suc (more i j x p q)

  pub kept_different : (xs : List ℕ) → Different xs → Different (filter f xs)
  kept_different [] d = λ i j x p q. absurd (none_of_nil i x p)
  kept_different (z ∷ zs) d =
      ⊎_elim
      (λ t. subst (λ ys. Different ys) (sym (keeps z zs t)) (different_here z zs d (kept_different zs (different_rest z zs d))))
      (λ t. subst (λ ys. Different ys) (sym (passes_over z zs t)) (kept_different zs (different_rest z zs d)))
      (cases_Bool (f z))

  same_if : (x z : ℕ) → f z ≡ true → (x == z) ≡ (f x && x == z)
  same_if x z t =
      ⊎_elim
      (λ e. sym (ap (λ b. b && x == z) (ap f e ∙ t)))
      (λ ne. ne_eqb x z ne ∙ sym (ap (λ b. f x && b) (ne_eqb x z ne) ∙ and-false (f x)))
      (cases_eq x z)

  never_if : (x z : ℕ) → f z ≡ false → (f x && x == z) ≡ false
  never_if x z t =
      ⊎_elim (λ e. ap (λ b. b && x == z) (ap f e ∙ t)) (λ ne. ap (λ b. f x && b) (ne_eqb x z ne) ∙ and-false (f x)) (cases_eq x z)

  pub among_kept : (x : ℕ) (xs : List ℕ) → among x (filter f xs) ≡ (f x && among x xs)
  among_kept x [] = sym (and-false (f x))
  among_kept x (z ∷ zs) =
      ⊎_elim
      (λ t. ap (among x) (keeps z zs t) ∙ ap (λ b. (x == z) || b) (among_kept x zs) ∙ ap (λ b. b || (f x && among x zs)) (same_if x z t) ∙ sym (and-or_distrib_left (f x) (x == z) (among x zs)))
      (λ t. ap (among x) (passes_over z zs t) ∙ among_kept x zs ∙ ap (λ b. b || (f x && among x zs)) (sym (never_if x z t)) ∙ sym (and-or_distrib_left (f x) (x == z) (among x zs)))
      (cases_Bool (f z))

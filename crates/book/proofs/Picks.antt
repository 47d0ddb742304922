-- A rising list, found again by testing each number.
--     Rising l n xs    xs rises, from l on and below n
--     rising_from      by what stands in it
--     filter_rising    the numbers that are among it, in order, are the list
use Rattle.std.proofs.Common.{◌≡◌, ℕ, zero, suc, ◌+◌, ◌<◌, ◌≤◌, Bool, false, ◌||◌, eqb, List, [], ◌∷◌, Some, refl, ap, ◌∙◌, subst, ⊎_elim, arith}
use Rattle.std.specs.List.{filter, range_with_len, slice_get}
use Rattle.std.proofs.lemmas.Bool.{cases_eq, eq-eqb, ne_eqb, or_from, or_left}
use Rattle.plan.specs.Tree.{among}
use Rattle.book.specs.Kept.{keeps, passes_over}

abbrev pub Rising : ℕ → ℕ → List ℕ → Type 0
Rising l n [] = Unit {0}
Rising l n (x ∷ xs) = (l ≤ x) × (x < n) × Rising (suc x) n xs

pub rising_from : (xs : List ℕ) (l n : ℕ) → ((i x : ℕ) → slice_get xs i ≡ Some x → (l ≤ x) × (x < n)) → ((i j x y : ℕ) → i < j → slice_get xs i ≡ Some x → slice_get xs j ≡ Some y → x < y) → Rising l n xs
rising_from [] l n bounds order = tt
rising_from (x ∷ xs) l n bounds order =
    let b = bounds 0 x refl in (
      b.0,
      b.1,
      rising_from xs (suc x) n
          (λ i y e. (order 0 (suc i) x y (omega arith) refl e, (bounds (suc i) y e).1))
          (λ i j y z h e f. order (suc i) (suc j) y z (omega arith) e f),
    )

-- nothing below the start is among a rising list
below_not_among : (x l n : ℕ) (xs : List ℕ) → Rising l n xs → x < l → among x xs ≡ false
below_not_among x l n [] r h = refl
below_not_among x l n (y ∷ ys) (ly, yn, r) h =
    or_from (eqb x y) (among x ys) (ne_eqb x y (λ e. omega arith)) (below_not_among x (suc y) n ys r (omega arith))

-- what passes a test, from l on and below l + d, is the rising list that the test is about
pub filter_rising : (g : ℕ → Bool) (d l n : ℕ) (xs : List ℕ) → Rising l n xs → n ≤ l + d → ((x : ℕ) → l ≤ x → g x ≡ among x xs) → filter g (range_with_len l d) ≡ xs
filter_rising g zero l n [] r h same = refl
filter_rising g zero l n (x ∷ xs) (lx, xn, r) h same = absurd (omega arith)
filter_rising g (suc d) l n [] r h same =
    passes_over g l (range_with_len (l + 1) d) (same l (omega arith)) ∙ filter_rising g d (l + 1) n [] tt (omega arith) (λ y le. same y (omega arith))
filter_rising g (suc d) l n (x ∷ xs) (lx, xn, r) h same =
    ⊎_elim
    (λ e.
    keeps g l (range_with_len (l + 1) d) (same l (omega arith) ∙ or_left (eqb l x) (among l xs) (eq-eqb l x e)) ∙
    ap (λ ys. l ∷ ys)
    (filter_rising g d (l + 1) n xs
    (subst (λ z. Rising z n xs) (let s : suc x ≡ l + 1 = omega arith in s) r)
    (omega arith)
    (λ y le. same y (omega arith) ∙ ap (λ b. b || among y xs) (ne_eqb y x (λ is. omega arith)))) ∙
    ap (λ y. y ∷ xs) e)
    (λ ne.
    passes_over g l (range_with_len (l + 1) d) (same l (omega arith) ∙ below_not_among l (suc l) n (x ∷ xs) (omega (arith, ne), xn, r) (omega arith)) ∙
    filter_rising g d (l + 1) n (x ∷ xs) (omega (arith, ne), xn, r) (omega arith) (λ y le. same y (omega arith)))
    (cases_eq l x)

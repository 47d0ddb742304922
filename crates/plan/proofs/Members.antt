-- Where numbers stand in a list.
--     none_of_nil           nothing stands in the empty list
--     at_push               what stands in a list with one more at its end
--     at_drop, at_take      what stands in the rest and in the front of a list
--     among_at, at_among    to be among a list is to stand somewhere in it
use Rattle.std.proofs.Common.{◌≡◌, ℕ, zero, suc, ◌+◌, ◌<◌, true, eqb, ◌⊎◌, List, [], ◌∷◌, ◌++◌, length, take, drop, Some, None, sym, refl, ap, inl, inr, ⊎_elim, suc-add, zero-add, arith}
use Rattle.std.specs.List.{slice_get}
use Rattle.std.proofs.lemmas.Bool.{or_cases, or_left, or_right, eq-eqb, eqb-true}
use Rattle.plan.specs.Tree.{among}

none_some : {x : ℕ} → None ≡ Some x → ⊥
none_some e = let z : ◌≡◌ {A = ℕ} 0 1 = cc in omega arith

pub none_of_nil : (k x : ℕ) → slice_get {X = ℕ} [] k ≡ Some x → ⊥
none_of_nil k x e = none_some e

pub at_push : (xs : List ℕ) (y k x : ℕ) → slice_get (xs ++ (y ∷ [])) k ≡ Some x → (slice_get xs k ≡ Some x) ⊎ ((k ≡ length xs) × (x ≡ y))
at_push [] y zero x e = inr (refl, cc)
at_push [] y (suc k) x e = absurd (none_some e)
at_push (z ∷ zs) y zero x e = inl e
at_push (z ∷ zs) y (suc k) x e = ⊎_elim inl (λ h. inr (ap suc h.0, h.1)) (at_push zs y k x e)

pub at_drop : (r : ℕ) (xs : List ℕ) (k : ℕ) → slice_get (drop r xs) k ≡ slice_get xs (r + k)
at_drop zero xs k = rw zero-add
at_drop (suc r) [] k = refl
at_drop (suc r) (x ∷ xs) k = rw suc-add (at_drop r xs k)

pub at_take : (n : ℕ) (xs : List ℕ) (k : ℕ) → k < n → slice_get (take n xs) k ≡ slice_get xs k
at_take zero xs k h = absurd (omega arith)
at_take (suc n) [] k h = refl
at_take (suc n) (x ∷ xs) zero h = refl
at_take (suc n) (x ∷ xs) (suc k) h = at_take n xs k (omega arith)

pub among_at : (x : ℕ) (xs : List ℕ) → among x xs ≡ true → (k : ℕ) × (slice_get xs k ≡ Some x)
among_at x [] e = let z : ◌≡◌ {A = ℕ} 0 1 = cc in absurd (omega arith)
among_at x (y ∷ ys) e =
    ⊎_elim (λ h. (0, ap Some (sym (eqb-true x y h)))) (λ h. let r = among_at x ys h in (suc r.0, r.1)) (or_cases (eqb x y) (among x ys) e)

pub at_among : (x : ℕ) (xs : List ℕ) (k : ℕ) → slice_get xs k ≡ Some x → among x xs ≡ true
at_among x [] k e = absurd (none_some e)
at_among x (y ∷ ys) zero e = let h : x ≡ y = cc in or_left (eqb x y) (among x ys) (eq-eqb x y h)
at_among x (y ∷ ys) (suc k) e = or_right (eqb x y) (among x ys) (at_among x ys k e)

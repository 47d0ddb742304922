-- What two lists have in common from their start.
--     shared_comm      it does not matter which comes first
--     shared_self      a list shares all of itself
--     shared_le        no more than the first has
--     shared_same      as far as they share, the same stands in both
--     shared_reaches   lists in which the same stands down to a place share more than that place
--     shared_push      what the first lacks may be put at the second's end
use Rattle.std.proofs.Common.{◌≡◌, ℕ, zero, suc, ◌<◌, ◌≤◌, cond, eqb, List, [], ◌∷◌, ◌++◌, length, Some, sym, refl, ap, ◌∙◌, ⊎_elim, arith}
use Rattle.std.specs.List.{slice_get}
use Rattle.std.proofs.lemmas.Bool.{cases_eq, cond-false, cond-true, eq-eqb, ne_eqb}
use Rattle.plan.specs.Tree.{shared}

here : (x y : ℕ) (xs ys : List ℕ) → x ≡ y → shared (x ∷ xs) (y ∷ ys) ≡ suc (shared xs ys)
here x y xs ys e = cond-true (eqb x y) (suc (shared xs ys)) 0 (eq-eqb x y e)

parts : (x y : ℕ) (xs ys : List ℕ) → (x ≡ y → ⊥) → shared (x ∷ xs) (y ∷ ys) ≡ 0
parts x y xs ys ne = cond-false (eqb x y) (suc (shared xs ys)) 0 (ne_eqb x y ne)

pub shared_comm : (xs ys : List ℕ) → shared xs ys ≡ shared ys xs
shared_comm [] [] = refl
shared_comm [] (y ∷ ys) = refl
shared_comm (x ∷ xs) [] = refl
shared_comm (x ∷ xs) (y ∷ ys) =
    ⊎_elim
    (λ e. here x y xs ys e ∙ ap suc (shared_comm xs ys) ∙ sym (here y x ys xs (sym e)))
    (λ ne. parts x y xs ys ne ∙ sym (parts y x ys xs (λ e. ne (sym e))))
    (cases_eq x y)

pub shared_self : (xs : List ℕ) → shared xs xs ≡ length xs
shared_self [] = refl
shared_self (x ∷ xs) = here x x xs xs refl ∙ ap suc (shared_self xs)

pub shared_le : (xs ys : List ℕ) → shared xs ys ≤ length xs
shared_le [] ys = omega arith
shared_le (x ∷ xs) [] = omega arith
shared_le (x ∷ xs) (y ∷ ys) =
    ⊎_elim
    (λ e. let h : shared xs ys ≤ length xs = shared_le xs ys in omega (arith, here x y xs ys e))
    (λ ne. omega (arith, parts x y xs ys ne))
    (cases_eq x y)

pub shared_same : (xs ys : List ℕ) (k : ℕ) → k < shared xs ys → slice_get xs k ≡ slice_get ys k
shared_same [] ys k h = absurd (omega arith)
shared_same (x ∷ xs) [] k h = absurd (omega arith)
shared_same (x ∷ xs) (y ∷ ys) zero h =
    ⊎_elim (λ e. ap Some e) (λ ne. absurd (omega (arith, parts x y xs ys ne))) (cases_eq x y)
shared_same (x ∷ xs) (y ∷ ys) (suc k) h =
    ⊎_elim (λ e. shared_same xs ys k (omega (arith, here x y xs ys e))) (λ ne. absurd (omega (arith, parts x y xs ys ne))) (cases_eq x y)

pub shared_reaches : (xs ys : List ℕ) (k x : ℕ) → slice_get xs k ≡ Some x → ((i : ℕ) → i ≤ k → slice_get xs i ≡ slice_get ys i) → k < shared xs ys
shared_reaches [] ys k x e same = let z : ◌≡◌ {A = ℕ} 0 1 = cc in absurd (omega arith)
shared_reaches (u ∷ us) [] k x e same = let h = same 0 (omega arith) in let z : ◌≡◌ {A = ℕ} 0 1 = cc in absurd (omega arith)
shared_reaches (u ∷ us) (v ∷ vs) zero x e same =
    let h = same 0 (omega arith) in
    let uv : u ≡ v = cc in
    omega (arith, here u v us vs uv)
shared_reaches (u ∷ us) (v ∷ vs) (suc k) x e same =
    let h = same 0 (omega arith) in
    let uv : u ≡ v = cc in
    let r : k < shared us vs = shared_reaches us vs k x e (λ i l. same (suc i) (omega arith)) in
    omega (arith, here u v us vs uv)

pub shared_push : (xs ys : List ℕ) (y : ℕ) → ((k : ℕ) → slice_get xs k ≡ Some y → ⊥) → shared xs (ys ++ (y ∷ [])) ≡ shared xs ys
shared_push [] ys y apart = refl
shared_push (x ∷ xs) [] y apart = parts x y xs [] (λ e. apart 0 (ap Some e))
shared_push (x ∷ xs) (z ∷ zs) y apart = ap (λ n. cond (eqb x z) (suc n) 0) (shared_push xs zs y (λ k. apart (suc k)))

-- Arrays in which nothing is written yet.
--     get_d_blank       each place of a blank array holds what it was filled with
--     blank_rooted      a blank array roots a tree of one term
--     blank_unpaired    a blank array has no pair
use Rattle.std.proofs.Common.{◌≡◌, ℕ, zero, suc, get_or, replicate, refl, ap, arith}
use Rattle.plan.specs.Shape.{Rooted, Unpaired}

pub get_d_blank : {X : Type 0} (n i : ℕ) (x : X) → get_or (replicate n x) i x ≡ x
get_d_blank zero i x = refl
get_d_blank (suc n) zero x = refl
get_d_blank (suc n) (suc i) x = get_d_blank n i x

pub blank_rooted : (n : ℕ) → Rooted 1 (replicate n 0)
blank_rooted n = (λ t pos small. omega arith, λ t past. get_d_blank n t 0, get_d_blank n 0 0)

pub blank_unpaired : (n m : ℕ) → Unpaired m (replicate n (0, 0))
blank_unpaired n m = λ p past. (ap (λ (e : ℕ × ℕ). e.0) (get_d_blank n p (0, 0)), ap (λ (e : ℕ × ℕ). e.1) (get_d_blank n p (0, 0)))

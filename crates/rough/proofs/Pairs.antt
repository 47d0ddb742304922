-- Lists with one more at the end.
--     pairwise_push    what holds of any two of a list holds of the longer one
--     all_both         two facts of each, taken together
use Rattle.std.proofs.Common.{ℕ, List, [], ◌∷◌, ◌++◌}
use Rattle.std.specs.List.{AllByRecursion}
use Rattle.std.proofs.ByRecursion.{All-push}
use Rattle.cuts.specs.Rules.{Pairwise}

pub pairwise_push : (R : ℕ → ℕ → Type 0) (xs : List ℕ) (x : ℕ) → Pairwise R xs → AllByRecursion (λ a. R a x) xs → Pairwise R (xs ++ (x ∷ []))
pairwise_push R [] x h k = (tt, tt)
pairwise_push R (y ∷ ys) x (h, hs) (k, ks) = (All-push (R y) ys x h k, pairwise_push R ys x hs ks)

pub all_both : (P Q R : ℕ → Type 0) → ((q : ℕ) → P q → Q q → R q) → (ys : List ℕ) → AllByRecursion P ys → AllByRecursion Q ys → AllByRecursion R ys
all_both P Q R h [] ps qs = tt
all_both P Q R h (y ∷ ys) (p, ps) (q, qs) = (h y p q, all_both P Q R h ys ps qs)

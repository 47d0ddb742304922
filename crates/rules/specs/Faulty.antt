-- The first of listed pairs that is at fault.
--     first_closed f qs       the first that is not open, where f says which are
--     first_repeat seen qs    the first that repeats one seen in front of it
use Rattle.std.specs.Prelude.{ℕ, Bool, cond, not, List, [], ◌∷◌, ◌++◌, Some, None, Option}
use Rattle.std.specs.List.{find}
use Rattle.plan.specs.Tree.{among}

abbrev pub first_closed : (ℕ → Bool) → List ℕ → Option ℕ
first_closed f qs = find (λ q. not (f q)) qs

abbrev pub first_repeat : List ℕ → List ℕ → Option ℕ
first_repeat seen [] = None
first_repeat seen (q ∷ qs) = cond (among q seen) (Some q) (first_repeat (seen ++ (q ∷ [])) qs)

-- A line by its letter and the numbers behind it.
--     step_in_lem      the step of a line whose numbers are known
use Rattle.std.proofs.Common.{◌≡◌, ℕ, ◌-◌, ◌≤◌, List, [], ◌∷◌, length, get_or, take, drop, Option, sym, ap, ◌∙◌, arith}
use Rattle.std.proofs.lemmas.List.{take_all}
use Rattle.lines.specs.Calls.{step_in, step_of}
use Rattle.lines.specs.Numbers.{numbers_in}

pub step_in_lem : (bs : List ℕ) (o : Option (List ℕ)) → 1 ≤ length bs → o ≡ numbers_in (take (length bs - 1) (drop 1 bs)) → step_in bs ≡ step_of (get_or bs 0 0) o
step_in_lem [] o h e = absurd (omega arith)
step_in_lem (b ∷ bs) o h e = ap (step_of b) (sym (e ∙ ap numbers_in (take_all (length (b ∷ bs) - 1) bs (omega arith))))

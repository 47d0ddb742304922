-- The bytes that the program prints.
--     refusal_line n a b      `no`, the number n of the line (0 for the plan), the refusal a and its place b
--     step_line t             what is left after a step, or `none`
--     line_said n j t         what line number n prints, which j judges, and after which the tally is t
--     run_said m t n ls       what the lines ls print, the first of them line number n, in a working with the tally t over a
--                             book that tells m
--     Prints file input bs    the program prints bs
use Rattle.std.specs.Prelude.{◌≡◌, ℕ, ◌+◌, ◌⊎◌, List, [], ◌∷◌, ◌++◌, Ok, Err, codes, decimal}
use Rattle.plan.specs.Layout.{Describes, Refuses}
use Rattle.plan.specs.Refusals.{plan_number, plan_place}
use Rattle.plan.specs.declared.fault.PlanFault.{PlanFault}
use Rattle.plan.specs.declared.shape.Plan.{Plan}
use Rattle.book.specs.Meaning.{Meaning}
use Rattle.book.specs.Told.{told}
use Rattle.working.specs.Marking.{fresh}
use Rattle.working.specs.declared.tally.State.{State}
use Rattle.working.specs.declared.tally.State.TheVariants.{NoCut, Open, Parted}
use Rattle.working.specs.declared.tally.Tally.{Tally}
use Rattle.lines.specs.Calls.{LineJudgement, line_judged, line_number, line_place, tally_after}
use Rattle.lines.specs.Lines.{lines_of}

abbrev pub refusal_line : ℕ → ℕ → ℕ → List ℕ
refusal_line n a b = codes "no " ++ (decimal n ++ (codes " " ++ (decimal a ++ (codes " " ++ (decimal b ++ codes "\n")))))

abbrev pub left_line : ℕ → List ℕ
left_line k = codes "left " ++ (decimal k ++ codes "\n")

abbrev pub state_line : State → ℕ → List ℕ
state_line Open k = left_line k
state_line NoCut k = codes "none\n"
state_line Parted k = left_line k

abbrev pub step_line : Tally → List ℕ
step_line t = state_line t.state t.left

abbrev pub line_said : ℕ → LineJudgement → List ℕ
line_said n (Ok t) = step_line t
line_said n (Err f) = refusal_line n (line_number f) (line_place f)

unfoldable pub run_said : Meaning → Tally → ℕ → List (List ℕ) → List ℕ
run_said m t n [] = []
run_said m t n (l ∷ ls) = line_said n (line_judged m t n l) ++ run_said m (tally_after (line_judged m t n l) t) (n + 1) ls

abbrev pub Prints : List ℕ → List ℕ → List ℕ → Type 0
Prints file input bs =
    ((p : Plan) × Describes file p × (bs ≡ run_said (told p) (fresh p.budget) 1 (lines_of input))) ⊎
    ((f : PlanFault) × Refuses file f × (bs ≡ refusal_line 0 (plan_number f) (plan_place f)))

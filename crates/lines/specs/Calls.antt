-- Which call a line makes, and what comes of it.
--     step_in l                              the step that the line l asks for, or nothing where l is no line of the program
--     line_judged m t n l                    line number n, in a working with the tally t over a book that tells m: the tally
--                                            after it, or its refusal
--     tally_after j t                        the tally that a call leaves which j judges
--     LineOutcome                            what such a call answers and leaves
--     line_number, line_place, line_layer    of a refused line: the number, the place and the layer of the refusal
use Rattle.std.specs.Prelude.{◌≡◌, ℕ, cond, List, [], ◌∷◌, Some, None, Ok, Err, Option, Result, MatchResult, ◌==◌}
use Rattle.cuts.specs.Steps.{Step, common_factor, disjoint_pairs, dominated_link, dominated_pair, idle_link, overloaded_link, unit_road}
use Rattle.plan.specs.Refusals.{Layer, line, working}
use Rattle.book.specs.Meaning.{Meaning}
use Rattle.working.specs.Judging.{Judgement, judged}
use Rattle.working.specs.Refusals.{working_number, working_place}
use Rattle.working.specs.declared.tally.Tally.{Tally}
use Rattle.lines.specs.Numbers.{numbers_in}
use Rattle.lines.specs.declared.fault.LineFault.{LineFault}
use Rattle.lines.specs.declared.fault.LineFault.TheVariants.{NotALine, Working}

-- a step that takes one number, one that takes two, and one that takes a number and a list
abbrev pub with_one : (ℕ → Step) → List ℕ → Option Step
with_one f [] = None
with_one f (a ∷ []) = Some (f a)
with_one f (a ∷ b ∷ ns) = None

abbrev pub with_two : (ℕ → ℕ → Step) → List ℕ → Option Step
with_two f [] = None
with_two f (a ∷ []) = None
with_two f (a ∷ b ∷ []) = Some (f a b)
with_two f (a ∷ b ∷ c ∷ ns) = None

abbrev pub with_list : (ℕ → List ℕ → Step) → List ℕ → Option Step
with_list f [] = None
with_list f (a ∷ ns) = Some (f a ns)

-- the letters by their bytes: i is 105, e 101, u 117, p 112, f 102, o 111 and n 110
abbrev pub step_by : ℕ → List ℕ → Option Step
step_by letter ns =
    cond (letter == 105) (with_one idle_link ns) (
    cond (letter == 101) (with_two dominated_link ns) (
    cond (letter == 117) (with_two unit_road ns) (
    cond (letter == 112) (with_two dominated_pair ns) (
    cond (letter == 102) (with_list common_factor ns) (
    cond (letter == 111) (with_list overloaded_link ns) (
    cond (letter == 110) (Some (disjoint_pairs ns)) None))))))

abbrev pub step_of : ℕ → Option (List ℕ) → Option Step
step_of letter None = None
step_of letter (Some ns) = step_by letter ns

abbrev pub step_in : List ℕ → Option Step
step_in [] = None
step_in (letter ∷ bs) = step_of letter (numbers_in bs)

abbrev pub LineJudgement : Type 0
LineJudgement = Result Tally LineFault

-- a line's fault holds that of the working whole
abbrev pub held : Judgement → LineJudgement
held (Ok t) = Ok t
held (Err f) = Err (Working f)

abbrev pub call_judged : Meaning → Tally → ℕ → Option Step → LineJudgement
call_judged m t n None = Err (NotALine n)
call_judged m t n (Some s) = held (judged m t s)

abbrev pub line_judged : Meaning → Tally → ℕ → List ℕ → LineJudgement
line_judged m t n l = call_judged m t n (step_in l)

abbrev pub tally_after : LineJudgement → Tally → Tally
tally_after (Ok u) t = u
tally_after (Err f) t = t

abbrev pub line_number : LineFault → ℕ
line_number (NotALine n) = 16
line_number (Working f) = working_number f

abbrev pub line_place : LineFault → ℕ
line_place (NotALine n) = n
line_place (Working f) = working_place f

abbrev pub line_layer : LineFault → Layer
line_layer (NotALine n) = line
line_layer (Working f) = working

-- a line that j judges answers r and leaves the tally u where it found t
abbrev pub LineOutcome : {X : Type 0} → LineJudgement → Tally → Result X LineFault → Tally → Type 0
LineOutcome j t r u = MatchResult r (λ _. j ≡ Ok u) (λ f. (j ≡ Err f) × (u ≡ t))

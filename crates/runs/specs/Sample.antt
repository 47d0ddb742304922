-- Steps on a sample plan, each on a new working, and what comes of them.
--     sample             seven terms, whose broader terms are 0, 0, 1, 1, 2, 2 for terms 1 to 6; pairs (3,4), (4,5), (5,6), (1,3)
--     Report             what a step comes to: a refusal with its number and place; or what is left, which pairs are open
--                        and whether the working has ended as none
--     reported k s       the step s on a new working with budget k
--     SampleSteps        some steps and their reports
use Rattle.std.specs.Prelude.{◌≡◌, ℕ, List, [], ◌∷◌, Ok, Err, filter, slice_index, slice_index_or}
use Rattle.std.specs.List.{AllByRecursion}
use Rattle.cuts.specs.Steps.{Step, disjoint_pairs, dominated_pair, unit_road}
use Rattle.book.specs.Meaning.{Meaning}
use Rattle.book.specs.Told.{told_by}
use Rattle.working.specs.Judging.{Judgement, judged}
use Rattle.working.specs.Marking.{fresh}
use Rattle.working.specs.Refusals.{working_number, working_place}
use Rattle.working.specs.Rest.{rest}
use Rattle.working.specs.declared.tally.State.{State}
use Rattle.working.specs.declared.tally.State.TheVariants.{NoCut, Open, Parted}

abbrev sample_broader : ℕ → ℕ
sample_broader t = slice_index (0 ∷ 0 ∷ 0 ∷ 1 ∷ 1 ∷ 2 ∷ 2 ∷ []) t

abbrev sample_ends : ℕ → ℕ × ℕ
sample_ends q = slice_index_or ((3, 4) ∷ (4, 5) ∷ (5, 6) ∷ (1, 3) ∷ []) q (0, 0)

abbrev pub sample : Meaning
sample = told_by 7 4 sample_broader sample_ends

pub data Report : Type 0 where
  refused : ℕ → ℕ → Report
  goes_on : ℕ → List ℕ → Report
  ends_none : Report

abbrev state_report : State → ℕ → List ℕ → Report
state_report Open k ps = goes_on k ps
state_report NoCut k ps = ends_none
state_report Parted k ps = ends_none

abbrev report : Judgement → Report
report (Ok t) = state_report t.state t.left (filter (rest sample t).opened (0 ∷ 1 ∷ 2 ∷ 3 ∷ []))
report (Err f) = refused (working_number f) (working_place f)

abbrev pub reported : ℕ → Step → Report
reported k s = report (judged sample (fresh k) s)

pub record Case : Type 0 where
  pub budget : ℕ
  pub step : Step
  pub comes_to : Report

abbrev pub cases : List Case
cases =
    record { budget = 2; step = unit_road 3 3; comes_to = goes_on 1 (1 ∷ 2 ∷ []) } ∷
    record { budget = 2; step = unit_road 3 0; comes_to = refused 11 3 } ∷
    record { budget = 2; step = dominated_pair 3 0; comes_to = goes_on 2 (1 ∷ 2 ∷ 3 ∷ []) } ∷
    record { budget = 2; step = dominated_pair 3 3; comes_to = refused 9 3 } ∷
    record { budget = 1; step = disjoint_pairs (2 ∷ 3 ∷ []); comes_to = ends_none } ∷
    record { budget = 1; step = disjoint_pairs (0 ∷ 3 ∷ []); comes_to = refused 11 0 } ∷
    record { budget = 2; step = disjoint_pairs (2 ∷ 3 ∷ []); comes_to = refused 7 2 } ∷ []

abbrev pub Holds : Case → Type 0
Holds c = reported c.budget c.step ≡ c.comes_to

abbrev pub SampleSteps : Type 0
SampleSteps = AllByRecursion Holds cases

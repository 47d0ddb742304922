-- The examples compute: each test and each search is evaluated.
use Rattle.std.proofs.Common.{[], ◌∷◌, refl}
use Rattle.cuts.proofs.Drawing.{drawn_sound, found, one_needed}
use Rattle.cuts.proofs.LeastCut.{fewest_zero}
use Rattle.cuts.proofs.Running.{listed_run, run_reduces}
use Rattle.cuts.proofs.Stepping.{step_decided, step_reduces}
use Rattle.cuts.specs.Examples.{LadderRun, RulesApply, broom, fork, ladder, ladder_steps, star}
use Rattle.cuts.specs.Instances.{Sound}
use Rattle.cuts.specs.Runs.{AllAdmitted, after_all, cut_by_all, left_after_all}
use Rattle.cuts.specs.Steps.{common_factor, disjoint_pairs, dominated_link, dominated_pair, idle_link, overloaded_link, unit_road, after}

fork_sound : Sound fork
fork_sound = drawn_sound 3 ((1 ∷ 2 ∷ []) ∷ [])

ladder_sound : Sound ladder
ladder_sound = drawn_sound 2 ((1 ∷ 2 ∷ []) ∷ (1 ∷ []) ∷ [])

broom_sound : Sound broom
broom_sound = drawn_sound 4 ((1 ∷ 2 ∷ []) ∷ (1 ∷ 3 ∷ []) ∷ (1 ∷ 4 ∷ []) ∷ [])

star_sound : Sound star
star_sound = drawn_sound 4 ((1 ∷ 2 ∷ []) ∷ (3 ∷ 4 ∷ []) ∷ [])

pub rules_apply : RulesApply
rules_apply = record {
  idle = (step_decided fork fork_sound 1 (idle_link 3)).0 refl;
  link = (step_decided ladder ladder_sound 1 (dominated_link 2 1)).0 refl;
  unit = (step_decided ladder ladder_sound 1 (unit_road 1 1)).0 refl;
  pair = (step_decided ladder ladder_sound 1 (dominated_pair 1 0)).0 refl;
  factor = (step_decided broom broom_sound 1 (common_factor 0 (1 ∷ 2 ∷ []))).0 refl;
  overload = (step_decided broom broom_sound 1 (overloaded_link 1 (0 ∷ 1 ∷ []))).0 refl;
  disjoint = (step_decided star star_sound 1 (disjoint_pairs (0 ∷ 1 ∷ []))).0 refl;
}

ladder_admitted : AllAdmitted ladder 1 ladder_steps
ladder_admitted =
    let second = after ladder (dominated_link 2 1) in
    let third = after second (dominated_pair 1 0) in
    let first_step = (step_decided ladder ladder_sound 1 (dominated_link 2 1)).0 refl in
    let second-sound = (step_reduces ladder ladder_sound 1 (dominated_link 2 1) first_step).sound in
    let second-step = (step_decided second second-sound 1 (dominated_pair 1 0)).0 refl in
    let third-sound = (step_reduces second second-sound 1 (dominated_pair 1 0) second-step).sound in
    (first_step, (second-step, ((step_decided third third-sound 1 (unit_road 1 1)).0 refl, tt)))

pub ladder_run : LadderRun
ladder_run =
    let rest = after_all ladder ladder_steps in
    let run = listed_run ladder 1 ladder_steps ladder_admitted in
    let rest-sound = (run_reduces ladder ladder_sound 1 rest (left_after_all 1 ladder_steps) (cut_by_all ladder_steps) run).sound in
    record {
      whole = one_needed ladder ladder_sound refl refl;
      admitted = ladder_admitted;
      left = refl;
      rest = fewest_zero rest (found rest rest-sound 0 refl);
    }

-- Each rule on a small example, and a run from beginning to end. The checker computes them.
--     fork      the links 1 and 2 are on the road of the pair 0; the link 3 is on none
--     ladder    the links 1 and 2 are on the road of the pair 0, the link 1 alone on that of the pair 1
--     broom     the link 1 is on three roads, with the link 2, 3 or 4 behind it
--     star      the links 1 and 2 are on the road of the pair 0, the links 3 and 4 on that of the pair 1
use Rattle.std.specs.Prelude.{◌≡◌, List, [], ◌∷◌}
use Rattle.cuts.specs.Drawn.{drawn}
use Rattle.cuts.specs.Instances.{Instance, Fewest}
use Rattle.cuts.specs.Runs.{AllAdmitted, after_all, left_after_all}
use Rattle.cuts.specs.Steps.{Step, idle_link, dominated_link, unit_road, dominated_pair, common_factor, overloaded_link, disjoint_pairs, Admitted}

abbrev pub fork : Instance
fork = drawn 3 ((1 ∷ 2 ∷ []) ∷ [])

abbrev pub ladder : Instance
ladder = drawn 2 ((1 ∷ 2 ∷ []) ∷ (1 ∷ []) ∷ [])

abbrev pub broom : Instance
broom = drawn 4 ((1 ∷ 2 ∷ []) ∷ (1 ∷ 3 ∷ []) ∷ (1 ∷ 4 ∷ []) ∷ [])

abbrev pub star : Instance
star = drawn 4 ((1 ∷ 2 ∷ []) ∷ (3 ∷ 4 ∷ []) ∷ [])

-- with one link left each rule is admitted somewhere
pub record RulesApply : Type 0 where
  pub idle : Admitted fork 1 (idle_link 3)
  pub link : Admitted ladder 1 (dominated_link 2 1)
  pub unit : Admitted ladder 1 (unit_road 1 1)
  pub pair : Admitted ladder 1 (dominated_pair 1 0)
  pub factor : Admitted broom 1 (common_factor 0 (1 ∷ 2 ∷ []))
  pub overload : Admitted broom 1 (overloaded_link 1 (0 ∷ 1 ∷ []))
  pub disjoint : Admitted star 1 (disjoint_pairs (0 ∷ 1 ∷ []))

abbrev pub ladder_steps : List Step
ladder_steps = dominated_link 2 1 ∷ dominated_pair 1 0 ∷ unit_road 1 1 ∷ []

-- the fewest of the ladder is 1: the run cuts one link, and nothing more is needed of what remains
pub record LadderRun : Type 0 where
  pub whole : Fewest ladder 1
  pub admitted : AllAdmitted ladder 1 ladder_steps
  pub left : left_after_all 1 ladder_steps ≡ 0
  pub rest : Fewest (after_all ladder ladder_steps) 0

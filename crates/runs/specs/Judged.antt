-- Steps are judged by the rules.
--     Whole t               the arrays of a tally have their 256 places
--     StepsFollowRules      a step that is admitted meets its rule, and what it leaves is what the rule leaves
--     RulesAdmitSteps       in an open working a step that meets its rule is admitted
use Rattle.std.specs.Prelude.{◌≡◌, true, length, Ok}
use Rattle.cuts.specs.Steps.{Admitted, Step, after, left_after}
use Rattle.book.specs.Meaning.{Lawful, Meaning}
use Rattle.book.specs.Posed.{posed}
use Rattle.working.specs.Judging.{is_open, judged}
use Rattle.working.specs.Rest.{rest}
use Rattle.working.specs.declared.tally.Tally.{Tally}

pub record Whole (t : Tally) : Type 0 where
  pub links : length t.links ≡ 256
  pub pairs : length t.dropped ≡ 256

-- what is true of a step that leads from the tally t to the tally u
pub record Follows (m : Meaning) (t u : Tally) (s : Step) : Type 0 where
  pub opened : is_open t.state ≡ true
  pub admitted : Admitted (posed (rest m t)) t.left s
  pub leaves : posed (rest m u) ≡ after (posed (rest m t)) s
  pub left : u.left ≡ left_after t.left s
  pub whole : Whole u

abbrev pub StepsFollowRules : Type 0
StepsFollowRules = (m : Meaning) → Lawful m → (t u : Tally) → Whole t → (s : Step) → judged m t s ≡ Ok u → Follows m t u s

abbrev pub RulesAdmitSteps : Type 0
RulesAdmitSteps = (m : Meaning) → Lawful m → (t : Tally) (s : Step) → is_open t.state ≡ true → Admitted (posed (rest m t)) t.left s → (u : Tally) × (judged m t s ≡ Ok u)

use Rattle.cuts.proofs.Stepping.{step_decided}
use Rattle.book.specs.Posed.{lawful_sound, posed}
use Rattle.working.specs.Lawful.{rest_lawful}
use Rattle.working.specs.Rest.{rest}
use Rattle.runs.proofs.Admitting.{admit}
use Rattle.runs.proofs.rules_admit_steps.Goals as goal

pub returns : goal.returns
returns c = λ m law t s open' admitted. admit m t open' s ((step_decided (posed (rest m t)) (lawful_sound (rest m t) (rest_lawful m t law)) t.left s).1 admitted)

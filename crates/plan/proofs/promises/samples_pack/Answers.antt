use Rattle.plan.proofs.Worked.{damaged_refused, samples_shown}
use Rattle.plan.proofs.promises.samples_pack.Goals as goal

pub returns : goal.returns
returns c = (samples_shown, damaged_refused)

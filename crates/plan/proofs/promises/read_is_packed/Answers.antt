use Rattle.plan.proofs.Reread.{described_packed}
use Rattle.plan.proofs.promises.read_is_packed.Goals as goal

pub returns : goal.returns
returns c = λ bs p all d. described_packed bs p all d

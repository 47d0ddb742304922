use Rattle.std.proofs.Common.{refl}
use Rattle.plan.specs.Tree.{way, way_within}
use Rattle.runs.proofs.sample_steps.Goals as goal

pub returns : goal.returns
unfolding way way_within
returns c = (refl, (refl, (refl, (refl, (refl, (refl, (refl, tt)))))))

use Rattle.std.proofs.Common.{refl, arith}
use Rattle.plan.proofs.Blank.{blank_rooted, blank_unpaired}
use Rattle.plan.proofs.shape.Plan.fresh.Goals as goal

pub invariant_of-result : goal.invariant_of-result
invariant_of-result c = record {
  counted = (omega arith, omega arith, omega arith);
  rooted = blank_rooted 256;
  paired = λ p none. omega arith;
  unpaired = blank_unpaired 256 0;
  stored = (omega arith, refl, refl);
}

use Rattle.plan.specs.Packed.{packed}
use Rattle.plan.proofs.Packs.{packed_bytes, packed_described}
use Rattle.plan.proofs.Unique.{described_once}
use Rattle.plan.proofs.promises.packed_reads_back.Goals as goal

pub returns : goal.returns
returns c = λ p. (packed_bytes p, packed_described p, λ q d. described_once (packed p) q p d (packed_described p))

use Rattle.std.proofs.Common.{refl, arith}
use Rattle.plan.specs.Layout.{ends_in}
use Rattle.plan.proofs.Rows.{written_none}
use Rattle.plan.proofs.header.Header.read_pairs.Goals as goal

pub loop-q-init : goal.loop-q-init
loop-q-init c = (refl, c.requires.place, written_none (ends_in c.args.bits.now.bytes.now c.args.self.terms) (0, 0) 0, λ p none. absurd (omega arith))

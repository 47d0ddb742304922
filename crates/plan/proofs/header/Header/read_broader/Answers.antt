use Rattle.std.proofs.Common.{refl, arith}
use Rattle.plan.specs.Layout.{broader_in}
use Rattle.plan.proofs.Rows.{written_none}
use Rattle.plan.proofs.header.Header.read_broader.Goals as goal

pub loop-t-init : goal.loop-t-init
loop-t-init c = (refl, c.requires.place, written_none (broader_in c.args.bits.now.bytes.now c.args.self.terms) 0 1, λ u pos small. absurd (omega arith))

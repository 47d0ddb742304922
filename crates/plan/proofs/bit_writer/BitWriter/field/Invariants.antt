use Rattle.std.proofs.Common.{◌-◌, ◌/◌, ◌^◌}
use Rattle.plan.specs.Packed.{number_bits}
use Rattle.plan.specs.Writes.{Wrote}
use Rattle.plan.proofs.bit_writer.BitWriter.field.Given as goal

abbrev pub invariant-loop-place : goal.invariant-loop-place
invariant-loop-place l = Wrote l.initial.self l.self (number_bits (l.width - l.place) (l.value / 2 ^ l.place))

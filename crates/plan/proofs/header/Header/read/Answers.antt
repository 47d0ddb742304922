use Rattle.std.proofs.Common.{◌^◌, ◌<◌, arith}
use Rattle.plan.proofs.Fields.{lt_from_field}
use Rattle.plan.proofs.header.Header.read.Goals as goal

pub overflow_cast-result : goal.overflow_cast-result
overflow_cast-result c = let h : c.in_ok-budget.budget < 2 ^ 8 = lt_from_field _ _ 8 c.in_ok-budget.ensures.value.0 in omega arith

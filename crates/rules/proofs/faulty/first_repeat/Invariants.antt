use Rattle.std.proofs.Common.{◌≡◌, ◌++◌, take, drop}
use Rattle.rules.specs.Faulty.{first_repeat}
use Rattle.rules.proofs.faulty.first_repeat.Given as goal

abbrev pub invariant-loop-i : goal.invariant-loop-i
invariant-loop-i l = first_repeat (l.front ++ take l.i l.pairs) (drop l.i l.pairs) ≡ first_repeat l.front l.pairs

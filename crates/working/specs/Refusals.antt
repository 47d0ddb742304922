-- The number and the place of each refusal of a working.
use Rattle.std.specs.Prelude.{ℕ}
use Rattle.working.specs.declared.fault.WorkingFault.{WorkingFault}
use Rattle.working.specs.declared.fault.WorkingFault.TheVariants.{Ended, NotLive, NotOpen, NothingLeft, Repeated, RuleFails, WrongLength}

abbrev pub working_number : WorkingFault → ℕ
working_number Ended = 6
working_number (WrongLength n) = 7
working_number (NotLive l) = 8
working_number (NotOpen p) = 8
working_number (Repeated n) = 9
working_number (NothingLeft l) = 10
working_number (RuleFails n) = 11

abbrev pub working_place : WorkingFault → ℕ
working_place Ended = 0
working_place (WrongLength n) = n
working_place (NotLive l) = l
working_place (NotOpen p) = p
working_place (Repeated n) = n
working_place (NothingLeft l) = l
working_place (RuleFails n) = n

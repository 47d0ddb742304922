-- The number and the place of each refusal of the rough cut.
use Rattle.std.specs.Prelude.{ℕ}
use Rattle.rough.specs.declared.fault.RoughFault.{RoughFault}
use Rattle.rough.specs.declared.fault.RoughFault.TheVariants.{EmptyRoad, LinksBuffer, PairsBuffer}

abbrev pub rough_number : RoughFault → ℕ
rough_number (EmptyRoad p) = 11
rough_number (LinksBuffer n) = 15
rough_number (PairsBuffer n) = 15

abbrev pub rough_place : RoughFault → ℕ
rough_place (EmptyRoad p) = p
rough_place (LinksBuffer n) = n
rough_place (PairsBuffer n) = n

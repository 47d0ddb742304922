-- The number, the place and the layer of each refusal.
--     Layer                                  where a refusal comes from: the bits, the plan, the working or the line
--     bits_number, bits_place                of a fault of the bits
--     plan_number, plan_place, plan_layer    of a fault of the plan, which holds that of the bits whole
use Rattle.std.specs.Prelude.{ℕ}
use Rattle.plan.specs.declared.fault.BitsFault.{BitsFault}
use Rattle.plan.specs.declared.fault.BitsFault.TheVariants.{EndsEarly, Surplus, BufferTooSmall}
use Rattle.plan.specs.declared.fault.PlanFault.{PlanFault}
use Rattle.plan.specs.declared.fault.PlanFault.TheVariants.{Bits, BroaderTerm, PairCount, PairTerms, TermCount}

pub data Layer : Type 0 where
  bits : Layer
  plan : Layer
  working : Layer
  line : Layer

abbrev pub bits_number : BitsFault → ℕ
bits_number (EndsEarly i) = 1
bits_number (Surplus i) = 5
bits_number (BufferTooSmall k) = 15

abbrev pub bits_place : BitsFault → ℕ
bits_place (EndsEarly i) = i
bits_place (Surplus i) = i
bits_place (BufferTooSmall k) = k

abbrev pub plan_number : PlanFault → ℕ
plan_number (Bits f) = bits_number f
plan_number TermCount = 2
plan_number PairCount = 2
plan_number (BroaderTerm t) = 3
plan_number (PairTerms q) = 4

abbrev pub plan_place : PlanFault → ℕ
plan_place (Bits f) = bits_place f
plan_place TermCount = 0
plan_place PairCount = 9
plan_place (BroaderTerm t) = t
plan_place (PairTerms q) = q

abbrev pub plan_layer : PlanFault → Layer
plan_layer (Bits f) = bits
plan_layer TermCount = plan
plan_layer PairCount = plan
plan_layer (BroaderTerm t) = plan
plan_layer (PairTerms q) = plan

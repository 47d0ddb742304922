-- Where each number of a packed plan stands, and which file is refused for what.
-- The numbers stand one behind the other: n in 9 bits, m in 9, the budget in 8, the broader terms of terms 1 to
-- n - 1 in w bits each, both terms of each pair in w bits each. The width w is the least with n ≤ 2 ^ w.
--     terms_in, pairs_in, budget_in    the three numbers of the header
--     broader_in bs t                  the broader term of term t
--     ends_in bs q                     the two terms of pair q
--     bits_in bs                       how many bits all these take
--     Headed, Long, Tree, Pairs        what has been checked, in this order: the header, the length, the terms, the pairs
--     Describes bs p                   the bytes pass every check and say what p holds
--     Refuses bs f                     the first check that fails is the one that f names, at f's place
use Rattle.std.specs.Prelude.{◌≡◌, ℕ, zero, suc, ◌+◌, ◌-◌, ◌*◌, ◌^◌, ◌<◌, ◌≤◌, cond, ◌⊎◌, List, length, nat_le}
use Rattle.plan.specs.Bits.{field_at, whole_bytes, Filled, Surplus as SurplusFrom}
use Rattle.plan.specs.Plans.{broader_of, ends_of}
use Rattle.plan.specs.Shape.{Counted, Ordered}
use Rattle.plan.specs.declared.fault.BitsFault.TheVariants.{EndsEarly, Surplus, BufferTooSmall}
use Rattle.plan.specs.declared.fault.PlanFault.{PlanFault}
use Rattle.plan.specs.declared.fault.PlanFault.TheVariants.{Bits, TermCount, PairCount, BroaderTerm, PairTerms}
use Rattle.plan.specs.declared.shape.Plan.{Plan}

-- the least w, from the one given and at most `more` above it, with n ≤ 2 ^ w
unfoldable pub width_from : ℕ → ℕ → ℕ → ℕ
width_from zero w n = w
width_from (suc more) w n = cond (nat_le n (2 ^ w)) w (width_from more (w + 1) n)

unfoldable pub width_for : ℕ → ℕ
width_for n = width_from 8 0 n

-- where the broader term of term t stands, and where pair q does, in a plan of n terms
abbrev pub broader_place : ℕ → ℕ → ℕ
broader_place n t = 26 + (t - 1) * width_for n

abbrev pub pair_place : ℕ → ℕ → ℕ
pair_place n q = broader_place n n + q * (2 * width_for n)

abbrev pub terms_in : List ℕ → ℕ
terms_in bs = field_at bs 0 9

abbrev pub pairs_in : List ℕ → ℕ
pairs_in bs = field_at bs 9 9

abbrev pub budget_in : List ℕ → ℕ
budget_in bs = field_at bs 18 8

abbrev pub broader_in : List ℕ → ℕ → ℕ → ℕ
broader_in bs n t = field_at bs (broader_place n t) (width_for n)

abbrev pub ends_in : List ℕ → ℕ → ℕ → ℕ × ℕ
ends_in bs n q = (field_at bs (pair_place n q) (width_for n), field_at bs (pair_place n q + width_for n) (width_for n))

abbrev pub bits_in : List ℕ → ℕ
bits_in bs = pair_place (terms_in bs) (pairs_in bs)

abbrev pub Headed : List ℕ → Type 0
Headed bs = (4 ≤ length bs) × Counted (terms_in bs) (pairs_in bs)

abbrev pub Long : List ℕ → Type 0
Long bs = Headed bs × (whole_bytes (bits_in bs) ≤ length bs)

-- the broader terms of the terms below t are smaller than their terms
abbrev pub TreeBelow : List ℕ → ℕ → ℕ → Type 0
TreeBelow bs n t = (u : ℕ) → 0 < u → u < t → broader_in bs n u < u

-- the pairs below q are two terms, the smaller first
abbrev pub PairsBelow : List ℕ → ℕ → ℕ → Type 0
PairsBelow bs n q = (p : ℕ) → p < q → Ordered n (ends_in bs n p)

abbrev pub Tree : List ℕ → Type 0
Tree bs = Long bs × TreeBelow bs (terms_in bs) (terms_in bs)

abbrev pub Pairs : List ℕ → Type 0
Pairs bs = Tree bs × PairsBelow bs (terms_in bs) (pairs_in bs)

pub record Describes (bs : List ℕ) (p : Plan) : Type 0 where
  pub checked : Pairs bs
  pub filled : Filled bs (bits_in bs)
  pub terms : p.terms ≡ terms_in bs
  pub pairs : p.pairs ≡ pairs_in bs
  pub budget : p.budget ≡ budget_in bs
  pub broader : (t : ℕ) → 0 < t → t < terms_in bs → broader_of p t ≡ broader_in bs (terms_in bs) t
  pub ends : (q : ℕ) → q < pairs_in bs → ends_of p q ≡ ends_in bs (terms_in bs) q

abbrev pub Refuses : List ℕ → PlanFault → Type 0
Refuses bs (Bits (EndsEarly i)) = (i ≡ 8 * length bs) × ((length bs < 4) ⊎ (Headed bs × (length bs < whole_bytes (bits_in bs))))
Refuses bs (Bits (BufferTooSmall k)) = ⊥
Refuses bs TermCount = (4 ≤ length bs) × ((terms_in bs ≡ 0) ⊎ (256 < terms_in bs))
Refuses bs PairCount = (4 ≤ length bs) × (1 ≤ terms_in bs) × (terms_in bs ≤ 256) × (256 < pairs_in bs)
Refuses bs (BroaderTerm t) = Long bs × (0 < t) × (t < terms_in bs) × TreeBelow bs (terms_in bs) t × (t ≤ broader_in bs (terms_in bs) t)
Refuses bs (PairTerms q) = Tree bs × (q < pairs_in bs) × PairsBelow bs (terms_in bs) q × (Ordered (terms_in bs) (ends_in bs (terms_in bs) q) → ⊥)
Refuses bs (Bits (Surplus i)) = Pairs bs × SurplusFrom bs (bits_in bs) i

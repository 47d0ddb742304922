-- The rough cut of a small plan, computed.
--            0              links 1 to 6, by the lower term; pairs 0: 3 and 4, 1: 4 and 5, 2: 5 and 6, 3: 1 and 3
--          1   2            ranks 1, 0, 1, 1, so the order is 0, 2, 3, 1
--         3 4 5 6           pair 0 chooses 3 and 4, pair 2 chooses 5 and 6; the pairs 3 and 1 are met then
--     IsSample p       p is this plan
--     SampleCut m      what a rough cut of it writes and answers
--     SampleFits c     as many links and pairs as the counts c are just what it writes
use Rattle.std.specs.Prelude.{◌≡◌, ℕ, [], ◌∷◌, Ok, Err}
use Rattle.plan.specs.Plans.{broader_of, ends_of}
use Rattle.plan.specs.declared.shape.Plan.{Plan}
use Rattle.book.specs.Meaning.{Meaning}
use Rattle.book.specs.Told.{told}
use Rattle.rough.specs.Order.{in_order}
use Rattle.rough.specs.Outcome.{answer}
use Rattle.rough.specs.Run.{apart_of, links_of}
use Rattle.rough.specs.declared.fault.RoughFault.TheVariants.{LinksBuffer, PairsBuffer}

abbrev pub Ends : Plan → ℕ → ℕ → ℕ → Type 0
Ends p q a b = ((ends_of p q).0 ≡ a) × ((ends_of p q).1 ≡ b)

pub record IsSample (p : Plan) : Type 0 where
  pub terms : p.terms ≡ 7
  pub pairs : p.pairs ≡ 4
  pub upper : (broader_of p 1 ≡ 0) × (broader_of p 2 ≡ 0)
  pub lower : (broader_of p 3 ≡ 1) × (broader_of p 4 ≡ 1) × (broader_of p 5 ≡ 2) × (broader_of p 6 ≡ 2)
  pub ends : Ends p 0 3 4 × Ends p 1 4 5 × Ends p 2 5 6 × Ends p 3 1 3

-- slices of just so many places are filled
abbrev pub Fits : Meaning → ℕ × ℕ → Type 0
Fits m c = answer m c.0 c.1 ≡ Ok c

pub record SampleCut (m : Meaning) : Type 0 where
  pub order : in_order m ≡ 0 ∷ 2 ∷ 3 ∷ 1 ∷ []
  pub links : links_of m ≡ 3 ∷ 4 ∷ 5 ∷ 6 ∷ []
  pub apart : apart_of m ≡ 0 ∷ 2 ∷ []
  pub fits : Fits m (4, 2)
  pub narrow : answer m 3 1 ≡ Err (LinksBuffer 4)
  pub short : answer m 4 1 ≡ Err (PairsBuffer 2)

abbrev pub SampleIsCut : Type 0
SampleIsCut = (p : Plan) → IsSample p → SampleCut (told p)

abbrev pub SampleFits : ℕ × ℕ → Type 0
SampleFits c = (p : Plan) → IsSample p → Fits (told p) c

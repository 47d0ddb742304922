-- What a plan says of its terms and pairs.
--     broader_of p t    the broader term of term t, the parent of t in the tree
--     ends_of p q       the two terms of pair q
--     IsFresh p         one term, no pair, budget 0
use Rattle.std.specs.Prelude.{◌≡◌, ℕ, slice_index, slice_index_or}
use Rattle.plan.specs.declared.shape.Plan.{Plan}

abbrev pub broader_of : Plan → ℕ → ℕ
broader_of p t = slice_index p.broader t

abbrev pub ends_of : Plan → ℕ → ℕ × ℕ
ends_of p q = slice_index_or p.ends q (0, 0)

pub record IsFresh (p : Plan) : Type 0 where
  pub terms : p.terms ≡ 1
  pub pairs : p.pairs ≡ 0
  pub budget : p.budget ≡ 0

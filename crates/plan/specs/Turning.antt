-- The turning term of two terms: their lowest common ancestor.
--     Over p c t         term c is reached from term t by following broader terms; t itself is
--     TurnsAt p a b c    c is over both a and b, and every term that is over both is over c
--     Turned p a b c     the rank of a and b counts the links above c, and their legs are the ways down from c
use Rattle.std.specs.Prelude.{◌≡◌, ℕ, ◌<◌, ◌++◌, length}
use Rattle.plan.specs.Plans.{broader_of}
use Rattle.plan.specs.Tree.{leg, rank, way}
use Rattle.plan.specs.declared.shape.Plan.{Plan}

pub data Over (p : Plan) (c : ℕ) : ℕ → Type 0 where
  here : Over p c c
  higher : {t : ℕ} → 0 < t → Over p c (broader_of p t) → Over p c t

abbrev pub TurnsAt : Plan → ℕ → ℕ → ℕ → Type 0
TurnsAt p a b c = Over p c a × Over p c b × ((d : ℕ) → Over p d a → Over p d b → Over p d c)

pub record Turned (p : Plan) (a b c : ℕ) : Type 0 where
  pub depth : rank (broader_of p) a b ≡ length (way (broader_of p) c)
  pub first : way (broader_of p) a ≡ way (broader_of p) c ++ leg (broader_of p) a b
  pub second : way (broader_of p) b ≡ way (broader_of p) c ++ leg (broader_of p) b a

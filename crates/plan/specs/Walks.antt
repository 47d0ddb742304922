-- Walks along the links of a plan, where some links are cut.
--     Joins p x a b      link x is the tree edge between terms a and b
--     Walk p s a b       a walk from a to b over links that are not in the set s
--     on_road p a b x    link x is on the road between a and b
--     Meets p s a b      some link of s is on the road between a and b
use Rattle.std.specs.Prelude.{◌≡◌, ℕ, ◌<◌, Bool, true, false, ◌||◌, ◌⊎◌}
use Rattle.plan.specs.Plans.{broader_of}
use Rattle.plan.specs.Tree.{among, leg}
use Rattle.plan.specs.declared.shape.Plan.{Plan}

abbrev pub Joins : Plan → ℕ → ℕ → ℕ → Type 0
Joins p x a b = (0 < x) × (x < p.terms) × (((a ≡ x) × (b ≡ broader_of p x)) ⊎ ((a ≡ broader_of p x) × (b ≡ x)))

pub data Walk (p : Plan) (s : ℕ → Bool) : ℕ → ℕ → Type 0 where
  stay : {a : ℕ} → Walk p s a a
  step : {a b c : ℕ} (x : ℕ) → s x ≡ false → Joins p x a b → Walk p s b c → Walk p s a c

abbrev pub on_road : Plan → ℕ → ℕ → ℕ → Bool
on_road p a b x = among x (leg (broader_of p) a b) || among x (leg (broader_of p) b a)

abbrev pub Meets : Plan → (ℕ → Bool) → ℕ → ℕ → Type 0
Meets p s a b = (x : ℕ) × (s x ≡ true) × (on_road p a b x ≡ true)

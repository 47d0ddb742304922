-- The tree of a plan, by its broader terms.
-- A link is the tree edge between a term and its broader term, its parent; it bears the term's number.
--     Falls up          each term but 0 has a broader term of a smaller number
--     way up t          the links from term 0 down to term t, in that order
--     links_up up t     the same links, from term t up to term 0
--     among x xs        x is one of xs
--     shared xs ys      how many links two ways have in common, from term 0 down
-- Two ways part at the turning term, the lowest common ancestor, so for a pair of terms a and b:
--     rank up a b       the number of links from their turning term up to term 0
--     leg up a b        the links from their turning term down to a, in that order
--     road              the links on both legs, that of a and that of b: the tree path between them
use Rattle.std.specs.List.{list_any}
use Rattle.std.specs.Prelude.{ℕ, zero, suc, ◌<◌, Bool, cond, List, [], ◌∷◌, ◌++◌, drop, reverse, ◌==◌}

abbrev pub Falls : (ℕ → ℕ) → Type 0
Falls up = (t : ℕ) → 0 < t → up t < t

-- the way, where no more than n links are looked for
unfoldable pub way_within : ℕ → (ℕ → ℕ) → ℕ → List ℕ
way_within zero up t = []
way_within (suc n) up zero = []
way_within (suc n) up (suc t) = way_within n up (up (suc t)) ++ (suc t ∷ [])

unfoldable pub way : (ℕ → ℕ) → ℕ → List ℕ
way up t = way_within t up t

abbrev pub links_up : (ℕ → ℕ) → ℕ → List ℕ
links_up up t = reverse (way up t)

abbrev pub among : ℕ → List ℕ → Bool
among x xs = list_any (λ y. x == y) xs

abbrev pub shared : List ℕ → List ℕ → ℕ
shared [] ys = 0
shared (x ∷ xs) [] = 0
shared (x ∷ xs) (y ∷ ys) = cond (x == y) (suc (shared xs ys)) 0

abbrev pub rank : (ℕ → ℕ) → ℕ → ℕ → ℕ
rank up a b = shared (way up a) (way up b)

abbrev pub leg : (ℕ → ℕ) → ℕ → ℕ → List ℕ
leg up a b = drop (rank up a b) (way up a)

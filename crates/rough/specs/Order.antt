-- The order in which a rough cut goes through the open pairs: by falling rank, equal ranks by rising number.
--     Before m p q      p comes before q
--     InOrder m ps      ps are just the open pairs, each before all that stand behind it
--     in_order m        these pairs in this order, as a list that computes
--     earlier r p q     the order as a test, over the ranks r
--     insert b x ys     x is put into ys, in front of the first that it comes before
--     sorted b f n      the numbers below n that f has, put in one by one
--     first_of b f n    the first of them under the order b
use Rattle.std.specs.Prelude.{◌≡◌, ℕ, zero, suc, ◌<◌, Bool, true, cond, ◌&&◌, ◌||◌, ◌⊎◌, List, [], ◌∷◌, Some, None, Option, ◌==◌, nat_lt}
use Rattle.std.specs.List.{AllByRecursion}
use Rattle.cuts.specs.Instances.{Open}
use Rattle.cuts.specs.Rules.{Pairwise}
use Rattle.plan.specs.Tree.{among}
use Rattle.book.specs.Meaning.{Meaning, rank_at}
use Rattle.book.specs.Posed.{posed}

abbrev pub Before : Meaning → ℕ → ℕ → Type 0
Before m p q = (rank_at m q < rank_at m p) ⊎ ((rank_at m p ≡ rank_at m q) × (p < q))

pub record InOrder (m : Meaning) (ps : List ℕ) : Type 0 where
  pub each_before : Pairwise (Before m) ps
  pub only_open : AllByRecursion (Open (posed m)) ps
  pub every_open : (p : ℕ) → Open (posed m) p → among p ps ≡ true

abbrev pub earlier : (ℕ → ℕ) → ℕ → ℕ → Bool
earlier r p q = nat_lt (r q) (r p) || (r p == r q && nat_lt p q)

abbrev pub insert : (ℕ → ℕ → Bool) → ℕ → List ℕ → List ℕ
insert b x [] = x ∷ []
insert b x (y ∷ ys) = cond (b x y) (x ∷ y ∷ ys) (y ∷ insert b x ys)

abbrev pub sorted : (ℕ → ℕ → Bool) → (ℕ → Bool) → ℕ → List ℕ
sorted b f zero = []
sorted b f (suc n) = cond (f n) (insert b n (sorted b f n)) (sorted b f n)

abbrev pub in_order : Meaning → List ℕ
in_order m = sorted (earlier (rank_at m)) m.opened m.pairs

-- x, or the first so far where x does not come before it
abbrev pub nearer : (ℕ → ℕ → Bool) → ℕ → Option ℕ → ℕ
nearer b x None = x
nearer b x (Some y) = cond (b x y) x y

abbrev pub first_of : (ℕ → ℕ → Bool) → (ℕ → Bool) → ℕ → Option ℕ
first_of b f zero = None
first_of b f (suc n) = cond (f n) (Some (nearer b n (first_of b f n))) (first_of b f n)

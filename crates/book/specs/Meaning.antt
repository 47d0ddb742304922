-- What a road-book tells, as one value, and the law that it obeys.
--     leg_of m s p        the links of a leg of pair p, from its top down
--     on_road m l p       link l is live, pair p is open, and l stands on a leg of p
--     rank_at, link_at    the rank and the links of an open pair; 0 and nothing for any other
--     Different xs        no number stands at two places of xs
--     TreeLaw m           if l is on the road of p and on a leg of q, and p does not turn deeper than q, then all that stands
--                         on that leg of q above l is on the road of p too
--     Lawful m            the limits, legs of different live links, and the tree law
use Rattle.std.specs.Prelude.{◌≡◌, ℕ, ◌<◌, ◌≤◌, Bool, true, cond, ◌&&◌, ◌||◌, List, Some, None, Option}
use Rattle.std.specs.List.{slice_get}
use Rattle.plan.specs.Tree.{among}
use Rattle.book.specs.declared.leg.Leg.{Leg}
use Rattle.book.specs.declared.leg.Leg.TheVariants.{First, Second}

pub record Meaning : Type 0 where
  pub highest : ℕ
  pub pairs : ℕ
  pub live : ℕ → Bool
  pub opened : ℕ → Bool
  pub rank : ℕ → ℕ
  pub first : ℕ → List ℕ
  pub second : ℕ → List ℕ

abbrev pub leg_of : Meaning → Leg → ℕ → List ℕ
leg_of m First p = m.first p
leg_of m Second p = m.second p

abbrev pub on_road : Meaning → ℕ → ℕ → Bool
on_road m l p = m.live l && (m.opened p && (among l (m.first p) || among l (m.second p)))

abbrev pub rank_at : Meaning → ℕ → ℕ
rank_at m p = cond (m.opened p) (m.rank p) 0

abbrev pub link_at : Meaning → Leg → ℕ → ℕ → Option ℕ
link_at m s p k = cond (m.opened p) (slice_get (leg_of m s p) k) None

abbrev pub Different : List ℕ → Type 0
Different xs = (i j x : ℕ) → slice_get xs i ≡ Some x → slice_get xs j ≡ Some x → i ≡ j

abbrev pub TreeLaw : Meaning → Type 0
TreeLaw m =
    (p q l x i j : ℕ) (s : Leg) → m.opened q ≡ true → on_road m l p ≡ true → m.rank p ≤ m.rank q →
    slice_get (leg_of m s q) j ≡ Some l → slice_get (leg_of m s q) i ≡ Some x → i ≤ j → on_road m x p ≡ true

pub record Lawful (m : Meaning) : Type 0 where
  pub few_links : m.highest ≤ 255
  pub few_pairs : m.pairs ≤ 256
  pub live_in : (l : ℕ) → m.live l ≡ true → (0 < l) × (l ≤ m.highest)
  pub opened_in : (p : ℕ) → m.opened p ≡ true → p < m.pairs
  pub low_rank : (p : ℕ) → m.opened p ≡ true → m.rank p ≤ 255
  pub different : (s : Leg) (p : ℕ) → m.opened p ≡ true → Different (leg_of m s p)
  pub live_legs : (s : Leg) (p k l : ℕ) → m.opened p ≡ true → slice_get (leg_of m s p) k ≡ Some l → m.live l ≡ true
  pub tree : TreeLaw m

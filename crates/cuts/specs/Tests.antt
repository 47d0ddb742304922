-- The seven rules as tests that compute. Each is true just when its rule of Rules applies, if the instance is sound.
--     is_idle_link i l, is_dominated_link i l h, is_unit_road i l p, is_dominated_pair i q r,
--     is_common_factor i k r qs, is_overloaded_link i k l qs, is_disjoint_pairs i k qs
--     all_pairs i f     f is true of every number below the number of pairs
--     all_links i f     f is true of every number from 0 to the highest link
--     pairwise f qs     f is true of any two of the list
--     implies a b       b is true if a is
--     shares i f p q    f is true of every link on the roads of both p and q
use Rattle.std.specs.Prelude.{ℕ, ◌+◌, Bool, true, false, not, ◌&&◌, ◌||◌, List, [], ◌∷◌, length, ◌==◌}
use Rattle.std.specs.List.{list_all, range_with_len}
use Rattle.cuts.specs.After.{off_road}
use Rattle.cuts.specs.Instances.{Instance}

abbrev pub all_pairs : Instance → (ℕ → Bool) → Bool
all_pairs i f = list_all f (range_with_len 0 i.pairs)

abbrev pub all_links : Instance → (ℕ → Bool) → Bool
all_links i f = list_all f (range_with_len 0 (i.highest + 1))

abbrev pub pairwise : (ℕ → ℕ → Bool) → List ℕ → Bool
pairwise f [] = true
pairwise f (q ∷ qs) = list_all (f q) qs && pairwise f qs

abbrev pub implies : Bool → Bool → Bool
implies a b = not a || b

abbrev pub differ : ℕ → ℕ → Bool
differ p q = not (p == q)

-- one link
abbrev pub is_idle_link : Instance → ℕ → Bool
is_idle_link i l = i.live l && all_pairs i (off_road i l)

abbrev pub follows : Instance → ℕ → ℕ → ℕ → Bool
follows i l h p = implies (i.on l p) (i.on h p)

abbrev pub is_dominated_link : Instance → ℕ → ℕ → Bool
is_dominated_link i l h = (i.live l && i.live h) && (differ l h && all_pairs i (follows i l h))

-- one pair
abbrev pub sole_on : Instance → ℕ → ℕ → ℕ → Bool
sole_on i l p x = implies (i.on x p) (x == l)

abbrev pub is_unit_road : Instance → ℕ → ℕ → Bool
is_unit_road i l p = (i.live l && i.opened p) && (i.on l p && all_links i (sole_on i l p))

abbrev pub also_on : Instance → ℕ → ℕ → ℕ → Bool
also_on i q r x = implies (i.on x q) (i.on x r)

abbrev pub is_dominated_pair : Instance → ℕ → ℕ → Bool
is_dominated_pair i q r = (i.opened q && i.opened r) && (differ q r && all_links i (also_on i q r))

-- many pairs
abbrev pub is_crowd : Instance → ℕ → List ℕ → Bool
is_crowd i k qs = length qs == k + 1 && (list_all i.opened qs && pairwise differ qs)

abbrev pub shared_is : Instance → (ℕ → Bool) → ℕ → ℕ → ℕ → Bool
shared_is i f p q x = implies (i.on x p && i.on x q) (f x)

abbrev pub shares : Instance → (ℕ → Bool) → ℕ → ℕ → Bool
shares i f p q = all_links i (shared_is i f p q)

abbrev pub on_road : Instance → ℕ → ℕ → Bool
on_road i r x = i.on x r

abbrev pub is_link : ℕ → ℕ → Bool
is_link l x = x == l

abbrev pub never : ℕ → Bool
never x = false

abbrev pub is_common_factor : Instance → ℕ → ℕ → List ℕ → Bool
is_common_factor i k r qs = (i.opened r && is_crowd i k qs) && (list_all (differ r) qs && pairwise (shares i (on_road i r)) qs)

abbrev pub is_overloaded_link : Instance → ℕ → ℕ → List ℕ → Bool
is_overloaded_link i k l qs = (i.live l && is_crowd i k qs) && (list_all (i.on l) qs && pairwise (shares i (is_link l)) qs)

abbrev pub is_disjoint_pairs : Instance → ℕ → List ℕ → Bool
is_disjoint_pairs i k qs = is_crowd i k qs && pairwise (shares i never) qs

-- The top links of a pair's legs.
--     tops m p         the top links of both legs of p
--     with_tops_lem    choosing them one after the other chooses them all
--     head_is_top      what stands first on a leg is one of the tops
--     tops_live        the tops are live
--     tops_few         and at most two
--     tops_meet        they meet their own pair, if its road is not empty
--     tops_apart       a pair whose rank is not the greater, and that no top of another meets, shares no link with it
use Rattle.std.proofs.Common.{◌≡◌, ℕ, ◌≤◌, true, false, ◌&&◌, ◌||◌, List, [], ◌∷◌, Some, refl, ⊎_elim, zero-le, arith}
use mathlib.Core.Bool.{or_assoc}
use mathlib.Core.Path.{fun_ext}
use Rattle.std.specs.List.{slice_get}
use Rattle.std.proofs.lemmas.Bool.{and_cases, and_from, and_parts, both_ways, cond-true, or_cases, or_left, or_right}
use Rattle.cuts.specs.Instances.{Live, Met, On, Open, size}
use Rattle.cuts.specs.Links.{In, Links, count, union}
use Rattle.cuts.specs.Rules.{Never, Share}
use Rattle.cuts.proofs.Counting.{count_empty, count_one, count_union}
use Rattle.plan.specs.Tree.{among}
use Rattle.plan.proofs.Members.{among_at, at_among, none_of_nil}
use Rattle.book.specs.Meaning.{Lawful, Meaning, leg_of, rank_at}
use Rattle.book.specs.Posed.{posed}
use Rattle.book.specs.declared.leg.Leg.{Leg}
use Rattle.book.specs.declared.leg.Leg.TheVariants.{First, Second}
use Rattle.rough.specs.Outcome.{empty_road, no_link}
use Rattle.rough.specs.Run.{top, with_tops}

top_head : (xs : List ℕ) (x : ℕ) → top xs x ≡ true → slice_get xs 0 ≡ Some x
top_head ls x e = grind arith

-- a list that has anything has a head
some_head : (xs : List ℕ) (j x : ℕ) → slice_get xs j ≡ Some x → (y : ℕ) × (slice_get xs 0 ≡ Some y)
some_head [] j x e = absurd (none_of_nil j x e)
some_head (y ∷ ys) j x e = (y, refl)

some_link : (xs : List ℕ) → no_link xs ≡ false → (y : ℕ) × (slice_get xs 0 ≡ Some y)
some_link [] e = let z : ◌≡◌ {A = ℕ} 0 1 = cc in absurd (omega arith)
some_link (y ∷ ys) e = (y, refl)

few_top : (n : ℕ) (xs : List ℕ) → ((x : ℕ) → slice_get xs 0 ≡ Some x → (1 ≤ x) × (x ≤ n)) → count (top xs) n ≤ 1
few_top n [] h = let e = count_empty (top []) (λ x. refl) n in omega arith
few_top n (y ∷ ys) h = let (low, high) = h y refl in let e = count_one y n low high in omega arith

-- the tops of both legs
abbrev pub tops : Meaning → ℕ → Links
tops m p = union (top (m.first p)) (top (m.second p))

pub with_tops_lem : (m : Meaning) (s : Links) (p : ℕ) → with_tops m s p ≡ union s (tops m p)
with_tops_lem m s p = fun_ext (λ x. or_assoc (s x) (top (m.first p) x) (top (m.second p) x))

module _ (m : Meaning) where
  pub head_is_top : (s : Leg) (p x : ℕ) → slice_get (leg_of m s p) 0 ≡ Some x → In (tops m p) x
  head_is_top s p x e = grind arith

  module _ (law : Lawful m) where
    pub tops_live : (p x : ℕ) → Open (posed m) p → In (tops m p) x → Live (posed m) x
    tops_live p x o e =
        ⊎_elim
        (λ h. law.live_legs First p 0 x o (top_head (m.first p) x h))
        (λ h. law.live_legs Second p 0 x o (top_head (m.second p) x h))
        (or_cases (top (m.first p) x) (top (m.second p) x) e)

    pub tops_few : (p : ℕ) → Open (posed m) p → size (posed m) (tops m p) ≤ 2
    tops_few p o =
        let n = m.highest in
        let a = few_top n (m.first p) (λ x e. law.live_in x (law.live_legs First p 0 x o e)) in
        let b = few_top n (m.second p) (λ x e. law.live_in x (law.live_legs Second p 0 x o e)) in
        omega (arith, count_union (top (m.first p)) (top (m.second p)) n)

    on_from : (s : Leg) (p j x : ℕ) → Open (posed m) p → slice_get (leg_of m s p) j ≡ Some x → On (posed m) x p
    on_from First p j x o e =
        and_from (m.live x) _ (law.live_legs First p j x o e) (and_from (m.opened p) _ o (or_left (among x (m.first p)) _ (at_among x (m.first p) j e)))
    on_from Second p j x o e =
        and_from (m.live x) _ (law.live_legs Second p j x o e) (and_from (m.opened p) _ o (or_right (among x (m.first p)) _ (at_among x (m.second p) j e)))

    pub tops_meet : (p : ℕ) → Open (posed m) p → empty_road m p ≡ false → Met (posed m) (tops m p) p
    tops_meet p o e =
        ⊎_elim
        (λ h. absurd (both_ways (m.opened p) h o))
        (λ h.
        ⊎_elim
        (λ k. let (y, at) = some_link (m.first p) k in (y, head_is_top First p y at, on_from First p 0 y o at))
        (λ k. let (y, at) = some_link (m.second p) k in (y, head_is_top Second p y at, on_from Second p 0 y o at))
        (and_cases (no_link (m.first p)) (no_link (m.second p)) h))
        (and_cases (m.opened p) (no_link (m.first p) && no_link (m.second p)) e)

    rank_of : (p : ℕ) → Open (posed m) p → rank_at m p ≡ m.rank p
    rank_of p o = cond-true (m.opened p) (m.rank p) 0 o

    pub tops_apart :
        (s : Links) (a p : ℕ) → Open (posed m) a → Open (posed m) p → rank_at m p ≤ rank_at m a → ((x : ℕ) → In (tops m a) x → In s x) →
        (Met (posed m) s p → ⊥) → Share (posed m) Never a p
    tops_apart s a p oa op low all unmet x on-a on-p =
        let low' : m.rank p ≤ m.rank a = omega (arith, rank_of p op, rank_of a oa) in
        let leads : (t : Leg) → among x (leg_of m t a) ≡ true → ⊥ = λ t e.
        let (j, at) = among_at x (leg_of m t a) e in
        let (y, head) = some_head (leg_of m t a) j x at in
        unmet (y, all y (head_is_top t a y head), law.tree p a x y 0 j t oa on-p low' at head zero-le) in
        let h = (and_parts (m.live x) (m.opened a && (among x (m.first a) || among x (m.second a))) on-a).1 in
        let k = (and_parts (m.opened a) (among x (m.first a) || among x (m.second a)) h).1 in
        ⊎_elim (leads First) (leads Second) (or_cases (among x (m.first a)) (among x (m.second a)) k)

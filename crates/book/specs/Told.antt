-- What a book tells of a plan, and that it is lawful.
--     told p         links 1 to n - 1 are live, every pair is open, and ranks and legs are those of the tree
--     told_by        the same, of a tree and pairs that no plan need hold
--     told_lawful    this obeys the law of books
use Rattle.std.specs.Prelude.{◌≡◌, ℕ, ◌-◌, ◌<◌, ◌≤◌, Bool, true, ◌&&◌, ◌||◌, Some, nat_lt}
use Rattle.std.proofs.Common.{⊎_elim, subst, arith}
use Rattle.std.specs.List.{slice_get}
use Rattle.std.proofs.lemmas.Bool.{and_from, and_parts, lt-ltb, ltb-true, or_cases, or_left, or_right}
use Rattle.plan.specs.Plans.{broader_of, ends_of}
use Rattle.plan.specs.Tree.{among, leg, rank}
use Rattle.plan.specs.declared.shape.Plan.{Plan}
use Rattle.plan.proofs.Climbs.{plan_falls}
use Rattle.plan.proofs.Roads.{leg_bounds, leg_different, rank_comm, rank_le, roads_join}
use Rattle.book.specs.Meaning.{Different, Lawful, Meaning, TreeLaw, leg_of}
use Rattle.book.specs.declared.leg.Leg.{Leg}
use Rattle.book.specs.declared.leg.Leg.TheVariants.{First, Second}

-- a term's number is that of a link
abbrev pub is_link : Plan → ℕ → Bool
is_link p l = nat_lt 0 l && nat_lt l p.terms

-- by the numbers of terms and pairs, the broader terms and the terms of the pairs
abbrev pub told_by : ℕ → ℕ → (ℕ → ℕ) → (ℕ → ℕ × ℕ) → Meaning
told_by n m up ends = record {
  highest = n - 1;
  pairs = m;
  live = λ l. nat_lt 0 l && nat_lt l n;
  opened = λ q. nat_lt q m;
  rank = λ q. rank up (ends q).0 (ends q).1;
  first = λ q. leg up (ends q).0 (ends q).1;
  second = λ q. leg up (ends q).1 (ends q).0;
}

abbrev pub told : Plan → Meaning
told p = told_by p.terms p.pairs (broader_of p) (ends_of p)

-- both terms of a pair are terms, and so below 256
pub ends_in_lem : (p : Plan) (q : ℕ) → nat_lt q p.pairs ≡ true → ((ends_of p q).0 < p.terms) × ((ends_of p q).1 < p.terms)
ends_in_lem p q e =
    let o = p.paired q (ltb-true q p.pairs e) in
    (omega (arith, o.0, o.1), o.1)

pub is_link_lem : (p : Plan) (l : ℕ) → 0 < l → l < p.terms → is_link p l ≡ true
is_link_lem p l pos small = and_from (nat_lt 0 l) (nat_lt l p.terms) (lt-ltb 0 l pos) (lt-ltb l p.terms small)

pub told_live_legs : (p : Plan) (s : Leg) (q k l : ℕ) → nat_lt q p.pairs ≡ true → slice_get (leg_of (told p) s q) k ≡ Some l → is_link p l ≡ true
told_live_legs p First q k l e f =
    let b = leg_bounds (broader_of p) (plan_falls p) (ends_of p q).0 _ k l f in
    is_link_lem p l b.0 (omega (arith, b.1, (ends_in_lem p q e).0))
told_live_legs p Second q k l e f =
    let b = leg_bounds (broader_of p) (plan_falls p) (ends_of p q).1 _ k l f in
    is_link_lem p l b.0 (omega (arith, b.1, (ends_in_lem p q e).1))

told_different : (p : Plan) (s : Leg) (q : ℕ) → Different (leg_of (told p) s q)
told_different p First q i j x e f = leg_different (broader_of p) (plan_falls p) (ends_of p q).0 _ i j x e f
told_different p Second q i j x e f = leg_different (broader_of p) (plan_falls p) (ends_of p q).1 _ i j x e f

-- a link above one that a leg of q shares with the leg to a is on the leg to a too
told_joins : (p : Plan) (a b q l x i j : ℕ) (s : Leg) → rank (broader_of p) a b ≤ (told p).rank q → slice_get (leg_of (told p) s q) j ≡ Some l → slice_get (leg_of (told p) s q) i ≡ Some x → i ≤ j → among l (leg (broader_of p) a b) ≡ true → among x (leg (broader_of p) a b) ≡ true
told_joins p a b q l x i j First low at above order on =
    roads_join (broader_of p) (plan_falls p) a (ends_of p q).0 (rank (broader_of p) a b) ((told p).rank q) l x i j on low at above order
told_joins p a b q l x i j Second low at above order on =
    let up = broader_of p in
    let c = (ends_of p q).1 in
    let d = (ends_of p q).0 in
    let e : rank up d c ≡ rank up c d = rank_comm up (plan_falls p) d c in
    roads_join up (plan_falls p) a c (rank up a b) (rank up c d) l x i j on (subst (λ r. rank up a b ≤ r) e low) at above order

told_tree : (p : Plan) → TreeLaw (told p)
told_tree p o q l x i j s e on low at above order =
    let m = told p in
    let up = broader_of p in
    let a = (ends_of p o).0 in
    let b = (ends_of p o).1 in
    let h = and_parts (m.live l) (m.opened o && (among l (m.first o) || among l (m.second o))) on in
    let k = and_parts (m.opened o) (among l (m.first o) || among l (m.second o)) h.1 in
    let low' : rank up b a ≤ (told p).rank q = subst (λ r. r ≤ (told p).rank q) (rank_comm up (plan_falls p) a b) low in
    and_from (m.live x) (m.opened o && (among x (m.first o) || among x (m.second o))) (told_live_legs p s q i x e above) (
    and_from (m.opened o) (among x (m.first o) || among x (m.second o)) k.0 (
    ⊎_elim
    (λ f. or_left (among x (m.first o)) (among x (m.second o)) (told_joins p a b q l x i j s low at above order f))
    (λ f. or_right (among x (m.first o)) (among x (m.second o)) (told_joins p b a q l x i j s low' at above order f))
    (or_cases (among l (m.first o)) (among l (m.second o)) k.1)))

pub told_lawful : (p : Plan) → Lawful (told p)
told_lawful p = record {
  few_links = omega (arith, p.counted.1);
  few_pairs = p.counted.2;
  live_in = λ l e. let h = and_parts (nat_lt 0 l) (nat_lt l p.terms) e in (ltb-true 0 l h.0, omega (arith, ltb-true l p.terms h.1));
  opened_in = λ q e. ltb-true q p.pairs e;
  low_rank = λ q e. omega (arith, rank_le (broader_of p) (plan_falls p) (ends_of p q).0 (ends_of p q).1, (ends_in_lem p q e).0, p.counted.1);
  different = λ s q e. told_different p s q;
  live_legs = told_live_legs p;
  tree = told_tree p;
}

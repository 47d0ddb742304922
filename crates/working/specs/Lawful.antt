-- The rest of a lawful book is lawful.
--     leg_rest       a leg of the rest is what the marks keep of the book's leg
--     rest_on        a link is on a road of the rest where it is on the book's, unmarked, and the pair not dropped
--     rest_lawful    a book under marks obeys the law of books
use Rattle.std.specs.Prelude.{◌≡◌, ℕ, Bool, true, false, ◌&&◌, ◌||◌, Some, filter, refl}
use Rattle.std.proofs.Math.Bool.{and_comm, and-false}
use Rattle.std.proofs.Common.{sym, ap, subst, ◌∙◌}
use Rattle.std.specs.List.{slice_get}
use Rattle.std.proofs.lemmas.Bool.{and_from, and_parts}
use Rattle.plan.specs.Tree.{among}
use Rattle.plan.proofs.Members.{at_among}
use Rattle.book.specs.Meaning.{Different, Lawful, Meaning, TreeLaw, leg_of, on_road}
use Rattle.book.specs.declared.leg.Leg.{Leg}
use Rattle.book.specs.declared.leg.Leg.TheVariants.{First, Second}
use Rattle.book.specs.Kept.{among_kept, kept_at, kept_different, kept_order}
use Rattle.working.specs.Rest.{rest, undropped, unmarked}
use Rattle.working.specs.declared.tally.Tally.{Tally}

-- regroups two tests on a link, two on a pair, and where the link stands
regroup : (a b c d e f : Bool) → ((a && b) && ((c && d) && ((b && e) || (b && f)))) ≡ ((a && (c && (e || f))) && (b && d))
regroup false b c d e f = refl
regroup true false c d e f = sym (and-false (c && (e || f)))
regroup true true false d e f = refl
regroup true true true d e f = and_comm d (e || f)

module _ (m : Meaning) (t : Tally) where
  pub leg_rest : (s : Leg) (p : ℕ) → leg_of (rest m t) s p ≡ filter (unmarked t) (leg_of m s p)
  leg_rest First p = refl
  leg_rest Second p = refl

  pub rest_on : (l p : ℕ) → on_road (rest m t) l p ≡ (on_road m l p && (unmarked t l && undropped t p))
  rest_on l p =
      let u = unmarked t l in
      let live = m.live l && u in
      let opened = m.opened p && undropped t p in
      ap (λ b. live && (opened && (b || among l (filter (unmarked t) (m.second p))))) (among_kept (unmarked t) l (m.first p)) ∙
      ap (λ b. live && (opened && ((u && among l (m.first p)) || b))) (among_kept (unmarked t) l (m.second p)) ∙
      regroup (m.live l) u (m.opened p) (undropped t p) (among l (m.first p)) (among l (m.second p))

  -- where a link stands on a leg of the rest, it stands on the book's leg too, and is unmarked
  leg_at : (s : Leg) (p k x : ℕ) → slice_get (leg_of (rest m t) s p) k ≡ Some x → slice_get (filter (unmarked t) (leg_of m s p)) k ≡ Some x
  leg_at s p k x e = subst (λ xs. slice_get xs k ≡ Some x) (leg_rest s p) e

  leg_unmarked : (s : Leg) (p k x : ℕ) → slice_get (leg_of (rest m t) s p) k ≡ Some x → unmarked t x ≡ true
  leg_unmarked s p k x e =
      let f = unmarked t in
      let xs = leg_of m s p in
      (and_parts (f x) (among x xs) (sym (among_kept f x xs) ∙ at_among x (filter f xs) k (leg_at s p k x e))).0

  module _ (law : Lawful m) where
    open_below : (p : ℕ) → (rest m t).opened p ≡ true → m.opened p ≡ true
    open_below p e = (and_parts (m.opened p) (undropped t p) e).0

    rest_live_legs : (s : Leg) (p k l : ℕ) → (rest m t).opened p ≡ true → slice_get (leg_of (rest m t) s p) k ≡ Some l → (rest m t).live l ≡ true
    rest_live_legs s p k l o e =
        let below = kept_at (unmarked t) (leg_of m s p) k l (leg_at s p k l e) in
        and_from (m.live l) (unmarked t l) (law.live_legs s p below.0 l (open_below p o) below.1) (leg_unmarked s p k l e)

    rest_tree : TreeLaw (rest m t)
    rest_tree p q l x i j s o on low at above order =
        let h = and_parts (on_road m l p) (unmarked t l && undropped t p) (sym (rest_on l p) ∙ on) in
        let u = and_parts (unmarked t l) (undropped t p) h.1 in
        let r = kept_order (unmarked t) (leg_of m s q) i j x l order (leg_at s q i x above) (leg_at s q j l at) in
        rest_on x p ∙
        and_from (on_road m x p) (unmarked t x && undropped t p)
        (law.tree p q l x r.0 r.1 s (open_below q o) h.0 low r.4 r.3 r.2)
        (and_from (unmarked t x) (undropped t p) (leg_unmarked s q i x above) u.1)

    pub rest_lawful : Lawful (rest m t)
    rest_lawful = record {
      few_links = law.few_links;
      few_pairs = law.few_pairs;
      live_in = λ l e. law.live_in l (and_parts (m.live l) (unmarked t l) e).0;
      opened_in = λ p e. law.opened_in p (open_below p e);
      low_rank = λ p e. law.low_rank p (open_below p e);
      different = λ s p e. subst (λ xs. Different xs) (sym (leg_rest s p)) (kept_different (unmarked t) (leg_of m s p) (law.different s p (open_below p e)));
      live_legs = rest_live_legs;
      tree = rest_tree;
    }

-- In an open working, a step that meets its rule is admitted.
use Rattle.std.proofs.Common.{◌≡◌, ℕ, ◌+◌, true, false, ◌&&◌, eqb, leb, List, [], ◌∷◌, length, Ok, sym, refl, subst, ⊎_elim, arith}
use Rattle.std.specs.List.{list_all}
use Rattle.std.proofs.lemmas.Bool.{and_parts, both_ways, eqb-true, leb-true, ne_eqb, not_from_false, or_cases}
use Rattle.cuts.specs.Instances.{Instance}
use Rattle.cuts.specs.Steps.{Step, common_factor, disjoint_pairs, dominated_link, dominated_pair, idle_link, is_admitted, overloaded_link, unit_road}
use Rattle.cuts.specs.Tests.{all_links, all_pairs, also_on, differ, follows, is_crowd, is_link, is_overloaded_link, is_unit_road, never, on_road, pairwise, shares, sole_on}
use Rattle.plan.specs.Tree.{among}
use Rattle.book.specs.Meaning.{Meaning}
use Rattle.book.specs.Posed.{posed}
use Rattle.rules.specs.Faulty.{first_closed, first_repeat}
use Rattle.working.specs.Judging.{is_open, judged}
use Rattle.working.specs.Marking.{cut_link, drop_pair, end_none, weld_link}
use Rattle.working.specs.Rest.{rest}
use Rattle.working.specs.declared.tally.Tally.{Tally}
use Rattle.runs.proofs.Checks.{all_closed, all_repeat, check_from, check_none_from}

module _ (m : Meaning) (t : Tally) (o : is_open t.state ≡ true) where
  abbrev i : Instance
  i = posed (rest m t)

  some_left : leb 1 t.left ≡ true → differ t.left 0 ≡ true
  some_left e = let h = leb-true 1 t.left e in not_from_false (eqb t.left 0) (ne_eqb t.left 0 (λ z. omega arith))

  none_seen : (qs : List ℕ) (s : ℕ) → among s [] ≡ true → list_all (differ s) qs ≡ true
  none_seen qs s e = absurd (both_ways false refl e)

  one_seen : (r : ℕ) (qs : List ℕ) → list_all (differ r) qs ≡ true → (s : ℕ) → among s (r ∷ []) ≡ true → list_all (differ s) qs ≡ true
  one_seen r qs e s h =
      ⊎_elim (λ a. subst (λ x. list_all (differ x) qs ≡ true) (sym (eqb-true s r a)) e) (λ a. absurd (both_ways false refl a)) (or_cases (eqb s r) false h)

  -- the parts of a crowd: its length, open pairs, different pairs
  crowd_parts : (qs : List ℕ) → is_crowd i t.left qs ≡ true → (eqb (length qs) (t.left + 1) ≡ true) × (list_all i.opened qs ≡ true) × (pairwise differ qs ≡ true)
  crowd_parts qs e =
      let a = and_parts (eqb (length qs) (t.left + 1)) (list_all i.opened qs && pairwise differ qs) e in
      let b = and_parts (list_all i.opened qs) (pairwise differ qs) a.1 in
      (a.0, b.0, b.1)

  pub admit : (s : Step) → is_admitted i t.left s ≡ true → (u : Tally) × (judged m t s ≡ Ok u)
  admit (idle_link l) e =
      let u = weld_link l t in
      let a = and_parts (i.live l) (all_pairs i _) e in
      (u, check_from _ _ _ u o (check_from (i.live l) _ _ u a.0 (check_from (all_pairs i _) _ _ u a.1 refl)))
  admit (dominated_link l h) e =
      let u = weld_link l t in
      let a = and_parts (i.live l && i.live h) (differ l h && all_pairs i (follows i l h)) e in
      let b = and_parts (i.live l) (i.live h) a.0 in
      let c = and_parts (differ l h) (all_pairs i (follows i l h)) a.1 in
      (u, check_from _ _ _ u o (check_from (i.live l) _ _ u b.0 (check_from (i.live h) _ _ u b.1 (check_from (differ l h) _ _ u c.0 (check_from (all_pairs i (follows i l h)) _ _ u c.1 refl)))))
  admit (unit_road l p) e =
      let u = cut_link i l t in
      let k = and_parts (leb 1 t.left) (is_unit_road i l p) e in
      let a = and_parts (i.live l && i.opened p) (i.on l p && all_links i (sole_on i l p)) k.1 in
      let b = and_parts (i.live l) (i.opened p) a.0 in
      (u, check_from _ _ _ u o (check_from (i.live l) _ _ u b.0 (check_from (i.opened p) _ _ u b.1 (check_from (differ t.left 0) _ _ u (some_left k.0) (check_from (i.on l p && all_links i (sole_on i l p)) _ _ u a.1 refl)))))
  admit (dominated_pair q r) e =
      let u = drop_pair r t in
      let a = and_parts (i.opened q && i.opened r) (differ q r && all_links i (also_on i q r)) e in
      let b = and_parts (i.opened q) (i.opened r) a.0 in
      let c = and_parts (differ q r) (all_links i (also_on i q r)) a.1 in
      (u, check_from _ _ _ u o (check_from (i.opened q) _ _ u b.0 (check_from (i.opened r) _ _ u b.1 (check_from (differ q r) _ _ u c.0 (check_from (all_links i (also_on i q r)) _ _ u c.1 refl)))))
  admit (common_factor r qs) e =
      let u = drop_pair r t in
      let a = and_parts (i.opened r && is_crowd i t.left qs) (list_all (differ r) qs && pairwise (shares i (on_road i r)) qs) e in
      let b = and_parts (i.opened r) (is_crowd i t.left qs) a.0 in
      let c = crowd_parts qs b.1 in
      let d = and_parts (list_all (differ r) qs) (pairwise (shares i (on_road i r)) qs) a.1 in (
        u,
        check_from _ _ _ u o (check_from (eqb (length qs) (t.left + 1)) _ _ u c.0 (check_from (i.opened r) _ _ u b.0
            (check_none_from (first_closed i.opened qs) _ _ u (all_closed i.opened qs c.1)
            (check_none_from (first_repeat (r ∷ []) qs) _ _ u (all_repeat (r ∷ []) qs c.2 (one_seen r qs d.0))
            (check_from (pairwise (shares i (on_road i r)) qs) _ _ u d.1 refl))))),
      )
  admit (overloaded_link l qs) e =
      let u = cut_link i l t in
      let k = and_parts (leb 1 t.left) (is_overloaded_link i t.left l qs) e in
      let a = and_parts (i.live l && is_crowd i t.left qs) (list_all (i.on l) qs && pairwise (shares i (is_link l)) qs) k.1 in
      let b = and_parts (i.live l) (is_crowd i t.left qs) a.0 in
      let c = crowd_parts qs b.1 in (
        u,
        check_from _ _ _ u o (check_from (eqb (length qs) (t.left + 1)) _ _ u c.0 (check_from (i.live l) _ _ u b.0
            (check_none_from (first_closed i.opened qs) _ _ u (all_closed i.opened qs c.1)
            (check_none_from (first_repeat [] qs) _ _ u (all_repeat [] qs c.2 (none_seen qs))
            (check_from (differ t.left 0) _ _ u (some_left k.0)
            (check_from (list_all (i.on l) qs && pairwise (shares i (is_link l)) qs) _ _ u a.1 refl)))))),
      )
  admit (disjoint_pairs qs) e =
      let u = end_none t in
      let a = and_parts (is_crowd i t.left qs) (pairwise (shares i never) qs) e in
      let c = crowd_parts qs a.0 in (
        u,
        check_from _ _ _ u o (check_from (eqb (length qs) (t.left + 1)) _ _ u c.0
            (check_none_from (first_closed i.opened qs) _ _ u (all_closed i.opened qs c.1)
            (check_none_from (first_repeat [] qs) _ _ u (all_repeat [] qs c.2 (none_seen qs))
            (check_from (pairwise (shares i never) qs) _ _ u a.1 refl)))),
      )

-- A step that is admitted meets its rule, and leaves what the rule leaves.
use Rattle.std.proofs.Common.{◌≡◌, ℕ, ◌+◌, true, ◌&&◌, eqb, leb, List, [], ◌∷◌, length, Ok, refl, subst, arith}
use Rattle.std.specs.List.{list_all}
use Rattle.std.proofs.lemmas.Bool.{and_from, eq-eqb, eqb-false, le-leb, not-true, or_left}
use Rattle.cuts.specs.Instances.{Instance}
use Rattle.cuts.specs.Steps.{Step, after, common_factor, disjoint_pairs, dominated_link, dominated_pair, idle_link, is_admitted, left_after, overloaded_link, unit_road}
use Rattle.cuts.specs.Tests.{all_links, all_pairs, also_on, differ, follows, is_crowd, is_link, never, on_road, pairwise, shares, sole_on}
use Rattle.cuts.proofs.Stepping.{step_decided}
use Rattle.book.specs.Meaning.{Lawful, Meaning}
use Rattle.book.specs.Posed.{posed}
use Rattle.rules.specs.Faulty.{first_closed, first_repeat}
use Rattle.working.specs.Judging.{Judgement, is_open, judged}
use Rattle.working.specs.Marking.{cut_link, drop_pair, end_none, weld_link}
use Rattle.working.specs.Rest.{rest}
use Rattle.working.specs.declared.tally.Tally.{Tally}
use Rattle.runs.specs.Judged.{Follows, Whole}
use Rattle.runs.proofs.Checks.{check_none_parts, check_parts, closed_all, repeat_all}
use Rattle.runs.proofs.Leaving.{cut_leaves, drop_leaves, sound, weld_leaves}

same_ok : {x y : Tally} → ◌≡◌ {A = Judgement} (Ok x) (Ok y) → x ≡ y
same_ok e = cc

module _ (m : Meaning) (law : Lawful m) (t u : Tally) (whole : Whole t) where
  -- the instance of the rest, where the definitions below speak of it
  abbrev i : Instance
  i = posed (rest m t)

  -- puts together what has been shown of a step
  made : (s : Step) (v : Tally) → is_open t.state ≡ true → is_admitted i t.left s ≡ true → (posed (rest m v) ≡ after i s) × Whole v → v.left ≡ left_after t.left s → ◌≡◌ {A = Judgement} (Ok v) (Ok u) → Follows m t u s
  made s v o admitted leaves left e =
      subst (λ w. Follows m t w s) (same_ok e)
      record { opened = o; admitted = (step_decided i (sound m law t whole) t.left s).0 admitted; leaves = leaves.0; left = left; whole = leaves.1 }

  some_left : differ t.left 0 ≡ true → leb 1 t.left ≡ true
  some_left e = let ne = eqb-false t.left 0 (not-true (eqb t.left 0) e) in le-leb 1 t.left (omega (arith, ne))

  crowd : (qs : List ℕ) → eqb (length qs) (t.left + 1) ≡ true → list_all i.opened qs ≡ true → pairwise differ qs ≡ true → is_crowd i t.left qs ≡ true
  crowd qs a b c = and_from (eqb (length qs) (t.left + 1)) (list_all i.opened qs && pairwise differ qs) a (and_from (list_all i.opened qs) (pairwise differ qs) b c)

  pub follow : (s : Step) → judged m t s ≡ Ok u → Follows m t u s
  follow (idle_link l) e =
      let o = check_parts _ _ _ u e in
      let a = check_parts (i.live l) _ _ u o.1 in
      let b = check_parts (all_pairs i _) _ _ u a.1 in
      made (idle_link l) (weld_link l t) o.0 (and_from (i.live l) (all_pairs i _) a.0 b.0) (weld_leaves m law t whole l a.0) refl b.1
  follow (dominated_link l h) e =
      let o = check_parts _ _ _ u e in
      let a = check_parts (i.live l) _ _ u o.1 in
      let b = check_parts (i.live h) _ _ u a.1 in
      let c = check_parts (differ l h) _ _ u b.1 in
      let d = check_parts (all_pairs i (follows i l h)) _ _ u c.1 in
      made (dominated_link l h) (weld_link l t) o.0
      (and_from (i.live l && i.live h) (differ l h && all_pairs i (follows i l h)) (and_from (i.live l) (i.live h) a.0 b.0) (and_from (differ l h) (all_pairs i (follows i l h)) c.0 d.0))
      (weld_leaves m law t whole l a.0) refl d.1
  follow (unit_road l p) e =
      let o = check_parts _ _ _ u e in
      let a = check_parts (i.live l) _ _ u o.1 in
      let b = check_parts (i.opened p) _ _ u a.1 in
      let c = check_parts (differ t.left 0) _ _ u b.1 in
      let d = check_parts (i.on l p && all_links i (sole_on i l p)) _ _ u c.1 in
      made (unit_road l p) (cut_link i l t) o.0
      (and_from (leb 1 t.left) _ (some_left c.0) (and_from (i.live l && i.opened p) (i.on l p && all_links i (sole_on i l p)) (and_from (i.live l) (i.opened p) a.0 b.0) d.0))
      (cut_leaves m law t whole l a.0) refl d.1
  follow (dominated_pair q r) e =
      let o = check_parts _ _ _ u e in
      let a = check_parts (i.opened q) _ _ u o.1 in
      let b = check_parts (i.opened r) _ _ u a.1 in
      let c = check_parts (differ q r) _ _ u b.1 in
      let d = check_parts (all_links i (also_on i q r)) _ _ u c.1 in
      made (dominated_pair q r) (drop_pair r t) o.0
      (and_from (i.opened q && i.opened r) (differ q r && all_links i (also_on i q r)) (and_from (i.opened q) (i.opened r) a.0 b.0) (and_from (differ q r) (all_links i (also_on i q r)) c.0 d.0))
      (drop_leaves m law t whole r b.0) refl d.1
  follow (common_factor r qs) e =
      let o = check_parts _ _ _ u e in
      let n = check_parts (eqb (length qs) (t.left + 1)) _ _ u o.1 in
      let a = check_parts (i.opened r) _ _ u n.1 in
      let b = check_none_parts (first_closed i.opened qs) _ _ u a.1 in
      let c = check_none_parts (first_repeat (r ∷ []) qs) _ _ u b.1 in
      let d = check_parts (pairwise (shares i (on_road i r)) qs) _ _ u c.1 in
      let apart = repeat_all (r ∷ []) qs c.0 in
      let others = apart.1 r (or_left (eqb r r) _ (eq-eqb r r refl)) in
      made (common_factor r qs) (drop_pair r t) o.0
      (and_from (i.opened r && is_crowd i t.left qs) (list_all (differ r) qs && pairwise (shares i (on_road i r)) qs)
      (and_from (i.opened r) (is_crowd i t.left qs) a.0 (crowd qs n.0 (closed_all i.opened qs b.0) apart.0))
      (and_from (list_all (differ r) qs) (pairwise (shares i (on_road i r)) qs) others d.0))
      (drop_leaves m law t whole r a.0) refl d.1
  follow (overloaded_link l qs) e =
      let o = check_parts _ _ _ u e in
      let n = check_parts (eqb (length qs) (t.left + 1)) _ _ u o.1 in
      let a = check_parts (i.live l) _ _ u n.1 in
      let b = check_none_parts (first_closed i.opened qs) _ _ u a.1 in
      let c = check_none_parts (first_repeat [] qs) _ _ u b.1 in
      let k = check_parts (differ t.left 0) _ _ u c.1 in
      let d = check_parts (list_all (i.on l) qs && pairwise (shares i (is_link l)) qs) _ _ u k.1 in
      made (overloaded_link l qs) (cut_link i l t) o.0
      (and_from (leb 1 t.left) _ (some_left k.0)
      (and_from (i.live l && is_crowd i t.left qs) (list_all (i.on l) qs && pairwise (shares i (is_link l)) qs)
      (and_from (i.live l) (is_crowd i t.left qs) a.0 (crowd qs n.0 (closed_all i.opened qs b.0) (repeat_all [] qs c.0).0)) d.0))
      (cut_leaves m law t whole l a.0) refl d.1
  follow (disjoint_pairs qs) e =
      let o = check_parts _ _ _ u e in
      let n = check_parts (eqb (length qs) (t.left + 1)) _ _ u o.1 in
      let b = check_none_parts (first_closed i.opened qs) _ _ u n.1 in
      let c = check_none_parts (first_repeat [] qs) _ _ u b.1 in
      let d = check_parts (pairwise (shares i never) qs) _ _ u c.1 in
      made (disjoint_pairs qs) (end_none t) o.0
      (and_from (is_crowd i t.left qs) (pairwise (shares i never) qs) (crowd qs n.0 (closed_all i.opened qs b.0) (repeat_all [] qs c.0).0) d.0)
      (refl, record { links = whole.links; pairs = whole.pairs }) refl d.1

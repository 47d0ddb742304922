-- The legs of a plan's pairs, by the tests of a sheet's tables.
--     way_rises       the links on a way rise
--     leg_rises       and so do those on a leg
--     leg_picked      so what is picked by that test is what stands on the leg
--     leg_tested      a link passes the test of a leg exactly when it is on it
use Rattle.std.proofs.Common.{◌≡◌, ℕ, suc, ◌+◌, ◌<◌, true, not, ◌&&◌, ◌||◌, ltb, length, Some, None, sym, ap, ◌∙◌, ⊎_elim, arith}
use Rattle.std.specs.List.{filter, range_with_len, slice_get}
use Rattle.std.proofs.lemmas.List.{length_push}
use Rattle.std.proofs.lemmas.Bool.{and_from, and_parts, and_right, both_ways, cond-true, not_from_false, not-true, or_cases, or_left, or_right}
use Rattle.plan.specs.Plans.{broader_of, ends_of}
use Rattle.plan.specs.Tree.{Falls, among, leg, way}
use Rattle.plan.specs.declared.shape.Plan.{Plan}
use Rattle.plan.proofs.Climbs.{plan_falls}
use Rattle.plan.proofs.Members.{among_at, at_drop, at_push, at_take}
use Rattle.plan.proofs.Roads.{leg_above, leg_bounds, same_tests}
use Rattle.plan.proofs.Ways.{depth_at, way_bounds, way_front, way_more}
use Rattle.book.specs.Meaning.{leg_of, link_at, on_road}
use Rattle.book.specs.Sheets.{first_test, leg_test}
use Rattle.book.specs.Told.{ends_in_lem, told, told_live_legs}
use Rattle.book.specs.declared.leg.Leg.{Leg}
use Rattle.book.specs.declared.leg.Leg.TheVariants.{First, Second}
use Rattle.book.proofs.Picks.{Rising, filter_rising, rising_from}

pub way_rises : (up : ℕ → ℕ) → Falls up → (t i j x y : ℕ) → i < j → slice_get (way up t) i ≡ Some x → slice_get (way up t) j ≡ Some y → x < y
way_rises up falls t i j x y h e f =
    let pos = (way_bounds up falls t j y f).0 in
    let w = way up (up y) in
    let long : length w ≡ j = omega (arith, depth_at up falls t j y f, ap length (way_more up falls y pos), length_push w y) in
    let less : i < suc j = omega arith in
    let there : slice_get (way up y) i ≡ Some x = ap (λ xs. slice_get xs i) (way_front up falls t j y f) ∙ at_take (suc j) (way up t) i less ∙ e in
    ⊎_elim
    (λ g. omega (arith, (way_bounds up falls (up y) i x g).1, falls y pos))
    (λ g. absurd (omega (arith, g.0)))
    (at_push w y i x (ap (λ xs. slice_get xs i) (sym (way_more up falls y pos)) ∙ there))

leg_rises : (up : ℕ → ℕ) → Falls up → (a b n : ℕ) → a < n → Rising 0 n (leg up a b)
leg_rises up falls a b n h =
    rising_from (leg up a b) 0 n
    (λ i x e. (omega arith, omega (arith, (leg_bounds up falls a _ i x e).1)))
    (λ i j x y less e f. way_rises up falls a (_ + i) (_ + j) x y (omega arith) (sym (at_drop _ (way up a) i) ∙ e) (sym (at_drop _ (way up a) j) ∙ f))

module _ (p : Plan) (q : ℕ) (open' : ltb q p.pairs ≡ true) where
  pub legs_rise : (s : Leg) → Rising 0 256 (leg_of (told p) s q)
  legs_rise First = leg_rises (broader_of p) (plan_falls p) (ends_of p q).0 (ends_of p q).1 256 (omega (arith, (ends_in_lem p q open').0, p.counted.1))
  legs_rise Second = leg_rises (broader_of p) (plan_falls p) (ends_of p q).1 (ends_of p q).0 256 (omega (arith, (ends_in_lem p q open').1, p.counted.1))

  -- on which leg a link on the road is
  sides : (l : ℕ) → on_road (told p) l q ≡ true → (among l ((told p).first q) || among l ((told p).second q)) ≡ true
  sides l e = (and_parts ((told p).opened q) _ (and_parts ((told p).live l) _ e).1).1

  on_first : (l : ℕ) → among l ((told p).first q) ≡ true → on_road (told p) l q ≡ true
  on_first l e =
      let k = among_at l ((told p).first q) e in
      and_from ((told p).live l) ((told p).opened q && (among l ((told p).first q) || among l ((told p).second q))) (told_live_legs p First q k.0 l open' k.1)
      (and_from ((told p).opened q) (among l ((told p).first q) || among l ((told p).second q)) open' (or_left (among l ((told p).first q)) (among l ((told p).second q)) e))

  on_second : (l : ℕ) → among l ((told p).second q) ≡ true → on_road (told p) l q ≡ true
  on_second l e =
      let k = among_at l ((told p).second q) e in
      and_from ((told p).live l) ((told p).opened q && (among l ((told p).first q) || among l ((told p).second q))) (told_live_legs p Second q k.0 l open' k.1)
      (and_from ((told p).opened q) (among l ((told p).first q) || among l ((told p).second q)) open' (or_right (among l ((told p).first q)) (among l ((told p).second q)) e))

  pub leg_tested : (s : Leg) (l : ℕ) → leg_test p s q l ≡ among l (leg_of (told p) s q)
  leg_tested First l =
      let up = broader_of p in
      let a = (ends_of p q).0 in
      let b = (ends_of p q).1 in
      let above = among l (way up a) in
      same_tests (first_test p q l) (among l ((told p).first q))
      (λ e.
      let h = and_parts (on_road (told p) l q) above e in
      ⊎_elim (λ f. f) (λ f. absurd (both_ways above (leg_above up (plan_falls p) b a l f).1 h.1)) (or_cases (among l ((told p).first q)) (among l ((told p).second q)) (sides l h.0)))
      (λ e. and_from (on_road (told p) l q) above (on_first l e) (leg_above up (plan_falls p) a b l e).0)
  leg_tested Second l =
      let up = broader_of p in
      let a = (ends_of p q).0 in
      let b = (ends_of p q).1 in
      let above = among l (way up a) in
      let on = on_road (told p) l q in
      same_tests (on && not (first_test p q l)) (among l ((told p).second q))
      (λ e.
      let h = and_parts on (not (first_test p q l)) e in
      ⊎_elim
      (λ f. absurd (both_ways (first_test p q l) (not-true (first_test p q l) h.1) (and_from on above h.0 (leg_above up (plan_falls p) a b l f).0)))
      (λ f. f)
      (or_cases (among l ((told p).first q)) (among l ((told p).second q)) (sides l h.0)))
      (λ e. and_from on (not (first_test p q l)) (on_second l e) (not_from_false (first_test p q l) (and_right on above (leg_above up (plan_falls p) b a l e).1)))

-- the links that pass the test of a leg, in order, are those that stand on it
pub leg_picked : (p : Plan) (s : Leg) (q k : ℕ) → true ≡ (told p).opened q → slice_get (filter (leg_test p s q) (range_with_len 0 256)) k ≡ link_at (told p) s q k
leg_picked p s q k open' =
    ap (λ xs. slice_get xs k) (filter_rising (leg_test p s q) 256 0 256 (leg_of (told p) s q) (legs_rise p q (sym open') s) (omega arith) (λ l _. leg_tested p q (sym open') s l)) ∙
    sym (cond-true ((told p).opened q) (slice_get (leg_of (told p) s q) k) None (sym open'))

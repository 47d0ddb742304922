-- Books that tell a plan.
--     told_tells       what the climbing book means tells its plan
--     road_told        the roads of a book that tells a plan are the plan's
--     cuts_alike       so its cuts are the plan's
--     roads_there      and no road is empty
use Rattle.std.proofs.Common.{◌≡◌, ℕ, ◌<◌, true, ◌&&◌, ◌||◌, sym, refl, ap, ◌∙◌, arith}
use Rattle.std.proofs.lemmas.Bool.{and_from, and_parts, lt-ltb, or_right}
use Rattle.cuts.specs.Instances.{Cut, NoEmptyRoad}
use Rattle.cuts.specs.Links.{Links}
use Rattle.plan.specs.Plans.{broader_of, ends_of}
use Rattle.plan.specs.Tree.{among}
use Rattle.plan.specs.declared.shape.Plan.{Plan}
use Rattle.plan.proofs.Climbs.{above_past, above_self, plan_falls}
use Rattle.plan.proofs.Roads.{above_leg}
use Rattle.book.specs.Meaning.{Lawful, Meaning, on_road}
use Rattle.book.specs.Posed.{posed}
use Rattle.book.specs.Tells.{PlanCut, Tells, plan_first, plan_second}
use Rattle.book.specs.Told.{is_link_lem, told}

pub told_tells : (p : Plan) → Tells (told p) p
told_tells p = record {
  highest = refl;
  pairs = refl;
  live = is_link_lem p;
  opened = λ q h. lt-ltb q p.pairs h;
  ranks = λ q _. refl;
  firsts = λ q _. refl;
  seconds = λ q _. refl;
}

module _ (m : Meaning) (law : Lawful m) (p : Plan) (tells : Tells m p) where
  road_told : (l q : ℕ) → q < p.pairs → (among l (m.first q) || among l (m.second q)) ≡ (among l (plan_first p q) || among l (plan_second p q))
  road_told l q h =
      ap (λ xs. among l xs || among l (m.second q)) (tells.firsts q h) ∙ ap (λ xs. among l (plan_first p q) || among l xs) (tells.seconds q h)

  pair_in : (q : ℕ) → m.opened q ≡ true → q < p.pairs
  pair_in q e = omega (arith, law.opened_in q e, tells.pairs)

  -- a link of the plan on the road of one of its pairs is on that road of the book
  on_told : (l q : ℕ) → 0 < l → l < p.terms → q < p.pairs → (among l (plan_first p q) || among l (plan_second p q)) ≡ true → on_road m l q ≡ true
  on_told l q pos small h e =
      and_from (m.live l) (m.opened q && (among l (m.first q) || among l (m.second q))) (tells.live l pos small)
      (and_from (m.opened q) (among l (m.first q) || among l (m.second q)) (tells.opened q h) (road_told l q h ∙ e))

  pub cuts_alike : (s : Links) → (Cut (posed m) s → PlanCut p s) × (PlanCut p s → Cut (posed m) s)
  cuts_alike s = (
    λ cut. record {
      inside = λ l e. let b = law.live_in l (cut.inside l e) in (b.0, omega (arith, b.0, b.1, tells.highest));
      meets = λ q h.
          let hit = cut.meets q (tells.opened q h) in
          let on = (and_parts (m.live hit.0) _ hit.2).1 in
          (hit.0, hit.1, sym (road_told hit.0 q h) ∙ (and_parts (m.opened q) _ on).1);
    },
    λ cut. record {
      inside = λ l e. let b = cut.inside l e in tells.live l b.0 b.1;
      meets = λ q e.
          let h = pair_in q e in
          let hit = cut.meets q h in
          let b = cut.inside hit.0 hit.1 in
          (hit.0, hit.1, on_told hit.0 q b.0 b.1 h hit.2);
    },
  )

  -- the second term of a pair has the larger number, so its own link does not lie above the first
  pub roads_there : NoEmptyRoad (posed m)
  roads_there q e =
      let h = pair_in q e in
      let o = p.paired q h in
      let a = (ends_of p q).0 in
      let b = (ends_of p q).1 in
      let up = broader_of p in
      let pos : 0 < b = omega (arith, o.0) in
      let own = above_leg up (plan_falls p) b a b (above_self up (plan_falls p) b pos) (above_past up (plan_falls p) b a o.0) in
      (b, on_told b q pos o.1 h (or_right (among b (plan_first p q)) (among b (plan_second p q)) own))

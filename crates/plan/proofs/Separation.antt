-- Two terms are separated exactly where a link of their road is cut.
--     above_other    what lies above a term, but for its own link, lies above its broader term
--     walk_keeps     a walk that leaves a link out stays on one side of it
--     road_parts     so where that link is on the road, no walk leads along
--     road_or_walk   and where none is cut, one does: from the larger term up, until both are one
use Rattle.std.proofs.Common.{◌≡◌, ℕ, zero, suc, ◌+◌, ◌<◌, ◌≤◌, Bool, true, false, not, ◌||◌, ◌⊎◌, sym, refl, ap, ◌∙◌, subst, inl, inr, ⊎_elim, arith}
use mathlib.Core.Bool.{beq, or_comm, or-false}
use Rattle.std.proofs.lemmas.Bool.{both_ways, cases_Bool, cases_eq, cases_order, ne_eqb}
use Rattle.plan.specs.Plans.{broader_of}
use Rattle.plan.specs.Tree.{among, leg, way}
use Rattle.plan.specs.Walks.{on_road, Joins, Meets, Walk, stay, step}
use Rattle.plan.specs.declared.shape.Plan.{Plan}
use Rattle.plan.proofs.Climbs.{above_past, above_self, among_push, plan_falls}
use Rattle.plan.proofs.Roads.{road_is}
use Rattle.plan.proofs.Ways.{way_more}

module _ (p : Plan) where
  abbrev up : ℕ → ℕ
  up = broader_of p

  abbrev above : ℕ → ℕ → Bool
  above x t = among x (way up t)

  above_other : (x t : ℕ) → 0 < t → (x ≡ t → ⊥) → above x t ≡ above x (up t)
  above_other x t pos ne =
      ap (among x) (way_more up (plan_falls p) t pos) ∙ among_push x (way up (up t)) t ∙
      ap (λ b. above x (up t) || b) (ne_eqb x t ne) ∙ or-false (above x (up t))

  road : (a b x : ℕ) → on_road p a b x ≡ not (beq (above x a) (above x b))
  road a b x = sym (road_is up (plan_falls p) a b x)

  module _ (s : ℕ → Bool) where
    other : (x y : ℕ) → s x ≡ true → s y ≡ false → x ≡ y → ⊥
    other x y cut left e = both_ways (s y) left (ap s (sym e) ∙ cut)

    pub walk_keeps : {a b : ℕ} (x : ℕ) → s x ≡ true → Walk p s a b → above x a ≡ above x b
    walk_keeps x cut stay = refl
    walk_keeps x cut (step {a} {b} y left (pos, small, ends) rest) =
        let e = above_other x y pos (other x y cut left) in
        ⊎_elim
        (λ h. ap (above x) h.0 ∙ e ∙ ap (above x) (sym h.1))
        (λ h. ap (above x) h.0 ∙ sym e ∙ ap (above x) (sym h.1))
        ends ∙ walk_keeps x cut rest

    same_side : (u v : Bool) → u ≡ v → not (beq u v) ≡ false
    same_side true true e = refl
    same_side true false e = e
    same_side false true e = sym e
    same_side false false e = refl

    pub road_parts : (a b : ℕ) → Meets p s a b → Walk p s a b → ⊥
    road_parts a b (x, cut, on) walk =
        both_ways (on_road p a b x) (road a b x ∙ same_side (above x a) (above x b) (walk_keeps x cut walk)) on

    walk_push : {a b c : ℕ} (x : ℕ) → s x ≡ false → Joins p x b c → Walk p s a b → Walk p s a c
    walk_push x left joins stay = step x left joins stay
    walk_push x left joins (step y kept link rest) = step y kept link (walk_push x left joins rest)

    meets_swap : (a b : ℕ) → Meets p s a b → Meets p s b a
    meets_swap a b (x, cut, on) = (x, cut, or_comm (among x (leg up b a)) (among x (leg up a b)) ∙ on)

    module _ (a b : ℕ) (less : a < b) where
      below : above b a ≡ false
      below = above_past up (plan_falls p) b a less

      -- the link of the larger term is on the road
      meets_here : s b ≡ true → Meets p s a b
      meets_here cut =
          (b, cut, road a b b ∙ ap (λ t. not (beq t (above b b))) below ∙ ap (λ t. not (beq false t)) (above_self up (plan_falls p) b (omega arith)))

      -- and the rest of the road is that to its broader term
      meets_climb : Meets p s a (up b) → Meets p s a b
      meets_climb (x, cut, on) =
          let falls : up b < b = plan_falls p b (omega arith) in
          let beyond = above_past up (plan_falls p) b (up b) falls in
          ⊎_elim
          (λ e. absurd (both_ways (on_road p a (up b) b) (road a (up b) b ∙ same_side (above b a) (above b (up b)) (below ∙ sym beyond)) (subst (λ y. on_road p a (up b) y ≡ true) e on)))
          (λ ne. (x, cut, road a b x ∙ ap (λ t. not (beq (above x a) t)) (above_other x b (omega arith) ne) ∙ sym (road a (up b) x) ∙ on))
          (cases_eq x b)

    road_or_walk_within : (n a b : ℕ) → a + b ≤ n → a < p.terms → b < p.terms → Meets p s a b ⊎ Walk p s a b
    road_or_walk_within zero a b le in_a in_b = let e : a ≡ b = omega arith in inr (subst (Walk p s a) e stay)
    road_or_walk_within (suc n) a b le in_a in_b =
        ⊎_elim
        (λ e. inr (subst (Walk p s a) e stay))
        (⊎_elim
        (λ less. let falls : up b < b = plan_falls p b (omega arith) in
        ⊎_elim
        (λ cut. inl (meets_here a b less cut))
        (λ left.
        ⊎_elim
        (λ m. inl (meets_climb a b less m))
        (λ w. inr (walk_push b left (omega arith, in_b, inr (refl, refl)) w))
        (road_or_walk_within n a (up b) (omega arith) in_a (omega arith)))
        (cases_Bool (s b)))
        (λ more. let falls : up a < a = plan_falls p a (omega arith) in
        ⊎_elim
        (λ cut. inl (meets_swap b a (meets_here b a more cut)))
        (λ left.
        ⊎_elim
        (λ m. inl (meets_swap b a (meets_climb b a more (meets_swap (up a) b m))))
        (λ w. inr (step a left (omega arith, in_a, inl (refl, refl)) w))
        (road_or_walk_within n (up a) b (omega arith) (omega arith) in_b))
        (cases_Bool (s a))))
        (cases_order a b)

    pub road_or_walk : (a b : ℕ) → a < p.terms → b < p.terms → Meets p s a b ⊎ Walk p s a b
    road_or_walk a b in_a in_b = road_or_walk_within (a + b) a b (omega arith) in_a in_b

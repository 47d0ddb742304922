-- What stays true as one follows broader terms up from a term.
--     plan_falls       the broader terms of a plan fall
--     above_climb      a smaller link lies above a term where it lies above the broader term
--     above_past       a larger link does not lie above a term
--     above_self       a term's own link does
--     above_root       nothing lies above term 0
--     above_here       so a term lies above itself exactly when it is not 0
--     climb_root       the climb from term 0 has no link
--     climb_more       the climb from a term is its own link, and the climb from its broader term
--     climb_on         the same, where the link and the next term are told by number
--     climb_yields     a climb that is asked for its links gives those
--     climb_place      what stands at a place of the climb, counted from the other end of the way
use Rattle.std.proofs.Common.{◌≡◌, ℕ, ◌-◌, ◌<◌, true, false, not, ◌||◌, eqb, List, [], ◌∷◌, ◌++◌, length, get_or, reverse, Some, sym, refl, ap, ◌∙◌, ⊎_elim, arith}
use mathlib.Core.Bool.{or-false}
use Rattle.std.specs.List.{slice_get}
use Rattle.std.specs.Iterator.{YieldsFirst}
use Rattle.std.proofs.lemmas.Iterator.{YieldsList}
use Rattle.std.proofs.lemmas.Iterator.Consumers.{YieldsList-from_first}
use Rattle.std.proofs.lemmas.List.{get_or-reverse, length-reverse, reverse-append}
use Rattle.std.proofs.lemmas.Option.{slice_get-get_or}
use Rattle.std.proofs.lemmas.List.Folds.{list_any-append}
use Rattle.std.proofs.lemmas.Bool.{cases_Bool, cases_eq, cases_lt, eq-eqb, ne_eqb, or_right}
use Rattle.plan.specs.Plans.{broader_of}
use Rattle.plan.specs.Tree.{among, links_up, way, Falls}
use Rattle.plan.specs.declared.climb.Climb.{Climb}
use Rattle.plan.specs.declared.shape.Plan.{Plan}
use Rattle.plan.proofs.Members.{among_at}
use Rattle.plan.proofs.Ways.{way_bounds, way_more, way_root}

pub plan_falls : (p : Plan) → Falls (broader_of p)
plan_falls p t pos =
    ⊎_elim (λ h. p.rooted.0 t pos h) (λ h. omega (arith, p.rooted.1 t h)) (cases_lt t p.terms)

pub among_push : (x : ℕ) (ys : List ℕ) (y : ℕ) → among x (ys ++ (y ∷ [])) ≡ (among x ys || eqb x y)
among_push x ys y = list_any-append (λ z. eqb x z) ys (y ∷ []) ∙ ap (λ b. among x ys || b) (or-false (eqb x y))

module _ (up : ℕ → ℕ) (falls : Falls up) where
  pub above_past : (x t : ℕ) → t < x → among x (way up t) ≡ false
  above_past x t h =
      ⊎_elim
      (λ e. let k = among_at x (way up t) e in absurd (omega (arith, (way_bounds up falls t k.0 x k.1).1)))
      (λ e. e)
      (cases_Bool (among x (way up t)))

  pub above_root : (x : ℕ) → among x (way up 0) ≡ false
  above_root x = ap (among x) (way_root up falls)

  pub above_self : (t : ℕ) → 0 < t → among t (way up t) ≡ true
  above_self t pos =
      ap (among t) (way_more up falls t pos) ∙ among_push t (way up (up t)) t ∙ or_right (among t (way up (up t))) (eqb t t) (eq-eqb t t refl)

  pub above_climb : (x t : ℕ) → x < t → among x (way up t) ≡ among x (way up (up t))
  above_climb x t h =
      ap (among x) (way_more up falls t (omega arith)) ∙ among_push x (way up (up t)) t ∙
      ap (λ b. among x (way up (up t)) || b) (ne_eqb x t (λ e. omega arith)) ∙ or-false (among x (way up (up t)))

  pub above_here : (t : ℕ) → among t (way up t) ≡ not (eqb t 0)
  above_here t =
      ⊎_elim
      (λ e. ap (λ s. among t (way up s)) e ∙ above_root t ∙ sym (ap not (eq-eqb t 0 e)))
      (λ ne. above_self t (omega (arith, ne)) ∙ sym (ap not (ne_eqb t 0 ne)))
      (cases_eq t 0)

  pub climb_root : links_up up 0 ≡ []
  climb_root = ap reverse (way_root up falls)

  pub climb_more : (t : ℕ) → 0 < t → links_up up t ≡ t ∷ links_up up (up t)
  climb_more t pos = ap reverse (way_more up falls t pos) ∙ reverse-append (way up (up t)) (t ∷ [])

  -- the same, where one goes on from that term's number
  pub climb_on : (t link next : ℕ) → t ≡ link → 0 < link → next ≡ up link → links_up up t ≡ link ∷ links_up up next
  climb_on t link next same pos on = ap (links_up up) same ∙ climb_more link pos ∙ ap (λ u. link ∷ links_up up u) (sym on)

  pub climb_place : (t k : ℕ) → k < length (way up t) → slice_get (links_up up t) (length (way up t) - 1 - k) ≡ slice_get (way up t) k
  climb_place t k h =
      let w = way up t in
      let j = length w - 1 - k in
      let e : length w - 1 - j ≡ k = omega arith in
      slice_get-get_or (reverse w) j 0 (rw length-reverse (omega arith)) ∙ ap Some (get_or-reverse w j 0 (omega arith) ∙ ap (λ i. get_or w i 0) e) ∙ sym (slice_get-get_or w k 0 h)

pub climb_yields : {s : Climb} (p : Plan) (t : ℕ) → s.plan.now ≡ p → s.at ≡ t → YieldsList (YieldsFirst (λ c. links_up (broader_of c.plan.now) c.at)) (λ x. x) s (links_up (broader_of p) t)
climb_yields p t e f = YieldsList-from_first (λ x. x) (λ c. links_up (broader_of c.plan.now) c.at) (links_up (broader_of p) t) cc

-- Welding a link loses nothing where the link can be spared.
--     weld_reduces              a weld reduces if each cut gives one without l that is no larger, and no road becomes empty
--     idle_link_reduces         an idle link is left out of the cut
--     dominated_link_reduces    a dominated link is exchanged for the one that dominates it
use Rattle.std.proofs.Common.{◌≡◌, ℕ, ◌≤◌, false, ◌≢◌, sym, refl, ap, ◌∙◌, ⊎_elim, arith}
use Rattle.std.proofs.lemmas.Bool.{both_ways, cases_Bool, cases_eq, eq-eqb, eqb-true, or_cases, or_left, or_right, true≢false}
use Rattle.cuts.proofs.Counting.{count_le, count_less, count_one, count_union, less_from, less_in, less_other}
use Rattle.cuts.proofs.Remaining.{but_for_from, onward_cut, remain_roads}
use Rattle.cuts.proofs.Sparing.{spare_reduces}
use Rattle.cuts.specs.After.{but_for, every, weld_link}
use Rattle.cuts.specs.Instances.{Instance, Open, On, Sound, Cut, NoEmptyRoad, size}
use Rattle.cuts.specs.Links.{Links, In, less, none, one, union}
use Rattle.cuts.specs.Reduces.{Reduces}
use Rattle.cuts.specs.Rules.{IdleLink, DominatedLink}

module _ (i : Instance) (ok : Sound i) where
  weld_reduces :
      (k l : ℕ) →
      ((s : Links) → Cut i s → (t : Links) × Cut (weld_link i l) t × (size i t ≤ size i s)) →
      (NoEmptyRoad i → NoEmptyRoad (weld_link i l)) → Reduces i k (weld_link i l) k none
  weld_reduces k l = spare_reduces i ok (but_for l) every k (λ s w p h went. absurd (true≢false went))

  pub idle_link_reduces : (k l : ℕ) → IdleLink i l → Reduces i k (weld_link i l) k none
  idle_link_reduces k l idle =
      let other : (x p : ℕ) → Open i p → On i x p → x ≢ l = λ x p h on e. idle.unused p h (ap (λ y. i.on y p) (sym e) ∙ on) in
      weld_reduces k l
      (λ s cut. (
        less s l,
        onward_cut i (but_for l) every (less s l)
            (λ x h. cut.inside x (less_in s l x h))
            (λ x h. but_for_from l x (less_other s l x h))
            (λ p h _. let (x, x-in, x-on) = cut.meets p h in (x, less_from s l x x-in (other x p h x-on), x-on)),
        count_le (less s l) s (less_in s l) i.highest,
      ))
      (λ full. remain_roads i (but_for l) every (λ p h _. let (x, x-on) = full p h in (x, x-on, but_for_from l x (other x p h x-on))))

  module _ (l h : ℕ) (dom : DominatedLink i l h) where
    -- a cut with l in it: h takes the place of l
    exchanged : (s : Links) → Cut i s → In s l → (t : Links) × Cut (weld_link i l) t × (size i t ≤ size i s)
    exchanged s cut l-in =
        let t = union (one h) (less s l) in
        let stays-h : (x : ℕ) → In (one h) x → x ≢ l = λ x e is. dom.other (sym is ∙ eqb-true x h e) in
        let same-h : (x : ℕ) → In (one h) x → x ≡ h = λ x. eqb-true x h in
        let few = count_less s l i.highest (ok.from_one l dom.live) (ok.to_highest l dom.live) l-in in
        let single = count_one h i.highest (ok.from_one h dom.by_live) (ok.to_highest h dom.by_live) in (
          t,
          onward_cut i (but_for l) every t
              (λ x e. ⊎_elim (λ a. ap i.live (same-h x a) ∙ dom.by_live) (λ a. cut.inside x (less_in s l x a)) (or_cases (one h x) (less s l x) e))
              (λ x e. ⊎_elim (λ a. but_for_from l x (stays-h x a)) (λ a. but_for_from l x (less_other s l x a)) (or_cases (one h x) (less s l x) e))
              (λ p o _.
              let (x, x-in, x-on) = cut.meets p o in
              ⊎_elim
              (λ e. (h, or_left (one h h) (less s l h) (eq-eqb h h refl), dom.follows p o (ap (λ y. i.on y p) (sym e) ∙ x-on)))
              (λ ne. (x, or_right (one h x) (less s l x) (less_from s l x x-in ne), x-on))
              (cases_eq x l)),
          omega (arith, count_union (one h) (less s l) i.highest),
        )

    -- a cut without l stays as it is
    unchanged : (s : Links) → Cut i s → s l ≡ false → (t : Links) × Cut (weld_link i l) t × (size i t ≤ size i s)
    unchanged s cut l-out =
        let other : (x : ℕ) → In s x → x ≢ l = λ x x-in e. both_ways (s l) l-out (ap s (sym e) ∙ x-in) in
        (s, onward_cut i (but_for l) every s cut.inside (λ x e. but_for_from l x (other x e)) (λ p o _. cut.meets p o), omega arith)

    -- a road with l on it has h on it too
    road_stays : NoEmptyRoad i → NoEmptyRoad (weld_link i l)
    road_stays full = grind arith

  pub dominated_link_reduces : (k l h : ℕ) → DominatedLink i l h → Reduces i k (weld_link i l) k none
  dominated_link_reduces k l h dom =
      weld_reduces k l
      (λ s cut. ⊎_elim (exchanged l h dom s cut) (unchanged l h dom s cut) (cases_Bool (s l)))
      (road_stays l h dom)

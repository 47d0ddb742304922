-- Cutting a link loses nothing where the link is in every cut within the budget.
--     cut_reduces                a cut of l reduces if l is in every cut within the budget
--     unit_road_reduces          the only link on a road is in every cut
--     overloaded_link_reduces    so is a link that more pairs share than the budget could part without it
use Rattle.std.proofs.Common.{◌≡◌, ℕ, ◌-◌, ◌≤◌, true, eqb, ◌≢◌, List, sym, refl, ap, ◌∙◌, ⊎_elim, arith}
use Rattle.std.proofs.lemmas.Bool.{both_ways, cases_Bool, eq-eqb, eqb-true, not-false, not-true, or_left}
use Rattle.cuts.proofs.Bound.{open_bound}
use Rattle.cuts.proofs.Counting.{count_less, count_one, count_union, less_from, less_in, less_other}
use Rattle.cuts.proofs.Remaining.{back_cut, but_for_from, live_in, live_stays, onward_cut, remain_roads, remain_sound}
use Rattle.cuts.specs.After.{but_for, off_road, cut_link}
use Rattle.cuts.specs.Instances.{Instance, Live, On, Sound, CutWithin, size}
use Rattle.cuts.specs.Links.{Links, In, less, one}
use Rattle.cuts.specs.Reduces.{Reduces}
use Rattle.cuts.specs.Rules.{UnitRoad, OverloadedLink, IsLink}

module _ (i : Instance) (ok : Sound i) where
  pub cut_reduces :
      (b l : ℕ) → 1 ≤ b → Live i l → ((s : Links) → CutWithin i b s → In s l) → Reduces i b (cut_link i l) (b - 1) (one l)
  cut_reduces b l some live forced =
      let n = i.highest in
      let single : size i (one l) ≡ 1 = count_one l n (ok.from_one l live) (ok.to_highest l live) in
      let is_live : (x : ℕ) → In (one l) x → Live i x = λ x h. ap i.live (eqb-true x l h) ∙ live in
      let other : (x p : ℕ) → On i x p → off_road i l p ≡ true → x ≢ l =
      λ x p on off e. both_ways (i.on l p) (not-true (i.on l p) off) (ap (λ y. i.on y p) (sym e) ∙ on) in
      record {
        sound = remain_sound i (but_for l) (off_road i l) ok;
        numbering = refl;
        spent = omega arith;
        taken = is_live;
        gone = λ x h still. both_ways (eqb x l) (not-true (eqb x l) (live_stays i (but_for l) (off_road i l) x still)) h;
        fewer = live_in i (but_for l) (off_road i l);
        roads = λ full. remain_roads i (but_for l) (off_road i l) (λ p h off.
            let (x, x-on) = full p h in
            (x, x-on, but_for_from l x (other x p x-on off)));
        back = λ s w. record {
          cut = back_cut i (but_for l) (off_road i l) (one l) s is_live w.cut (λ p h on.
              (l, or_left (one l l) (s l) (eq-eqb l l refl), not-false (i.on l p) on));
          small = omega (arith, w.small, count_union (one l) s n);
        };
        onward = λ s w.
            let l-in = forced s w in
            let few = count_less s l n (ok.from_one l live) (ok.to_highest l live) l-in in (
              less s l,
              onward_cut i (but_for l) (off_road i l) (less s l)
                  (λ x h. w.cut.inside x (less_in s l x h))
                  (λ x h. but_for_from l x (less_other s l x h))
                  (λ p h off. let (x, x-in, x-on) = w.cut.meets p h in (x, less_from s l x x-in (other x p x-on off), x-on)),
              omega arith,
            );
      }

  pub unit_road_reduces : (b l p : ℕ) → 1 ≤ b → UnitRoad i l p → Reduces i b (cut_link i l) (b - 1) (one l)
  unit_road_reduces b l p some unit =
      cut_reduces b l some unit.live (λ s w.
      let (x, x-in, x-on) = w.cut.meets p unit.opened in
      ap s (sym (unit.sole x x-on)) ∙ x-in)

  pub overloaded_link_reduces :
      (b l : ℕ) (qs : List ℕ) → 1 ≤ b → OverloadedLink i b l qs → Reduces i b (cut_link i l) (b - 1) (one l)
  overloaded_link_reduces b l qs some over =
      cut_reduces b l some over.live (λ s w.
      ⊎_elim (λ l-in. l-in)
      (λ l-out. absurd (omega (
        arith,
        open_bound i ok s w.cut (IsLink l) (λ x e. ap s e ∙ l-out) qs over.crowd.opened over.shared,
        w.small,
        over.crowd.many,
      )))
      (cases_Bool (s l)))

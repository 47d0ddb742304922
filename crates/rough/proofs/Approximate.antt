-- The rough cut is a cut of at most twice the fewest links.
--     rough_cut     of a lawful book with no empty road
use Rattle.std.proofs.Common.{◌≡◌, ℕ, ◌+◌, ◌*◌, ◌<◌, ◌≤◌, true, false, [], length, sym, subst, ⊎_elim, add-one, arith}
use Rattle.std.specs.List.{AllByRecursion}
use Rattle.std.proofs.ByRecursion.{All-weaker}
use Rattle.std.proofs.lemmas.Bool.{cases_Bool, false≢true}
use Rattle.cuts.specs.Instances.{Cut, Met, Open, size}
use Rattle.cuts.specs.Links.{Links, count}
use Rattle.cuts.proofs.Bound.{disjoint_bound}
use Rattle.book.specs.Meaning.{Lawful, Meaning}
use Rattle.book.specs.Posed.{lawful_sound, posed}
use Rattle.rough.proofs.Going.{Kept, Sofar, sofar_all, sofar_none}
use Rattle.rough.proofs.Ordered.{in_order_lem}
use Rattle.rough.proofs.Rising.{all_rising, among_rising, length_rising, pairwise_rising}
use Rattle.rough.proofs.Sorting.{all_among}
use Rattle.rough.specs.Order.{in_order}
use Rattle.rough.specs.Outcome.{empty_road}
use Rattle.rough.specs.Promise.{RoughCut}
use Rattle.rough.specs.Run.{apart_of, gone, links_of, none_gone, rising}

module _ (m : Meaning) (law : Lawful m) (full : (p : ℕ) → Open (posed m) p → empty_road m p ≡ false) where
  all_gone : Sofar m (gone m) []
  all_gone =
      let o = in_order_lem m law in
      sofar_all m law (in_order m) none_gone o.each_before o.only_open full (sofar_none m law (in_order m) o.every_open)

  pub rough_cut : RoughCut m (links_of m) (apart_of m)
  rough_cut =
      let so = all_gone in
      let s = (gone m).chosen in
      let n = m.highest in
      let ls = links_of m in
      let ps = apart_of m in
      let i = posed m in
      let opened : AllByRecursion (Open i) ps = All-weaker (Kept m (gone m) []) (Open i) (λ a k. k.opened) ps so.kept in
      let least : (t : Links) → Cut i t → length ps ≤ size i t = λ t c. disjoint_bound i (lawful_sound m law) t c ps opened so.apart in
      let zero-out : s 0 ≡ false = ⊎_elim (λ e. let l = (law.live_in 0 (so.inside 0 e)).0 in absurd (omega arith)) (λ e. e) (cases_Bool (s 0)) in
      let many : length ls ≡ count s n = subst (λ k. length (rising s k) ≡ count s n) (sym (add-one n)) (length_rising s zero-out n) in
      let twice : length ls ≤ 2 * length ps = omega (arith, so.few) in
      record {
        cut = record {
          inside = λ l e. so.inside l (all_among (λ x. (x < n + 1) × (s x ≡ true)) l ls (all_rising s (n + 1)) e).1;
          meets = λ p o.
              let (x, x-in, x-on) : Met i s p = ⊎_elim (λ k. k) (λ e. absurd (false≢true e)) (so.met p o) in
              (x, among_rising s (n + 1) x (let h = (law.live_in x (so.inside x x-in)).1 in omega arith) x-in, x-on);
        };
        rising = pairwise_rising s (n + 1);
        opened = opened;
        apart = so.apart;
        at_least = least;
        twice = twice;
        at_most = λ t c. let h = least t c in omega arith;
      }

-- A step that cuts no link.
--     spare_reduces    it reduces if the pairs that go are met by every cut of what remains within the budget, if each
--                      cut gives one of what remains that is no larger, and if no road becomes empty
use Rattle.std.proofs.Common.{◌≡◌, ℕ, ◌≤◌, Bool, false, refl, arith}
use Rattle.std.proofs.lemmas.Bool.{false≢true}
use Rattle.cuts.proofs.Counting.{count_empty}
use Rattle.cuts.proofs.Remaining.{back_cut, live_in, remain_sound}
use Rattle.cuts.specs.After.{remain}
use Rattle.cuts.specs.Instances.{Instance, Open, Sound, Met, Cut, CutWithin, NoEmptyRoad, size}
use Rattle.cuts.specs.Links.{Links, none}
use Rattle.cuts.specs.Reduces.{Reduces}

pub spare_reduces :
    (i : Instance) → Sound i → (f g : ℕ → Bool) (k : ℕ) →
    ((s : Links) → CutWithin (remain i f g) k s → (p : ℕ) → Open i p → g p ≡ false → Met i s p) →
    ((s : Links) → Cut i s → (t : Links) × Cut (remain i f g) t × (size i t ≤ size i s)) →
    (NoEmptyRoad i → NoEmptyRoad (remain i f g)) → Reduces i k (remain i f g) k none
spare_reduces i ok f g k met spared roads =
    let nothing : size i none ≡ 0 = count_empty none (λ x. refl) i.highest in
    record {
      sound = remain_sound i f g ok;
      numbering = refl;
      spent = omega arith;
      taken = λ x h. absurd (false≢true h);
      gone = λ x h _. false≢true h;
      fewer = live_in i f g;
      roads = roads;
      back = λ s w. record {
        cut = back_cut i f g none s (λ x h. absurd (false≢true h)) w.cut (met s w);
        small = w.small;
      };
      onward = λ s w.
          let (t, t-cut, t-le) = spared s w.cut in
          (t, t-cut, omega arith);
    }

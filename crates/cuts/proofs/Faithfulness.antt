-- Whoever solves what remains has solved the start.
--     same_fewest                the fewest of what remains and the links cut make up the fewest of the start
--     reductions_are_faithful    what reduces is faithful
--     run_is_faithful            so a run is
--     run_roads                  no open road becomes empty along a run
--     run_no_cut                 where a run comes to disjoint pairs, the start had no cut within its budget
use Rattle.std.proofs.Common.{◌≡◌, ℕ, List, ap, arith}
use Rattle.cuts.proofs.Counting.{count_union}
use Rattle.cuts.proofs.LeastCut.{fewest_found}
use Rattle.cuts.proofs.Running.{run_reduces}
use Rattle.cuts.proofs.Stepping.{disjoint_no_cut}
use Rattle.cuts.specs.Instances.{Instance, Sound, HasCut, NoEmptyRoad, size}
use Rattle.cuts.specs.Links.{Links, count, union}
use Rattle.cuts.specs.Reduces.{Reduces}
use Rattle.cuts.specs.Rules.{DisjointPairs}
use Rattle.cuts.specs.Runs.{Faithful, Run, SameFewest}

module _ (i : Instance) (ok : Sound i) (b : ℕ) (j : Instance) (k : ℕ) (c : Links) (red : Reduces i b j k c) where
  same_fewest : HasCut i b → (f : ℕ) × (g : ℕ) × SameFewest i j c f g
  same_fewest has =
      let same : (s : Links) → size j s ≡ size i s = λ s. ap (count s) red.numbering in
      let (f, few, f-le) = fewest_found i ok b has in
      let (s, s-cut, s-size) = few.attained in
      let (t, t-cut, t-le) = red.onward s (record { cut = s-cut; small = omega arith }) in
      let (g, few-j, g-le) = fewest_found j red.sound (size j t) (t, record { cut = t-cut; small = omega arith }) in
      let (u, u-cut, u-size) = few-j.attained in
      let both = red.back u (record { cut = u-cut; small = omega (arith, red.spent) }) in (
        f,
        g,
        record {
          whole = few;
          rest = few-j;
          sum = omega (arith, same u, count_union c u i.highest, few.least (union c u) both.cut);
        },
      )

  pub reductions_are_faithful : Faithful i b j k c
  reductions_are_faithful = record {
    fewest = same_fewest;
    onward = λ (s, w). let (t, t-cut, t-le) = red.onward s w in (t, record { cut = t-cut; small = omega (arith, red.spent, w.small) });
    without = λ lacks (s, w). lacks (union c s, red.back s w);
    back = red.back;
  }

module _ (i : Instance) (ok : Sound i) where
  pub run_is_faithful : (b : ℕ) (j : Instance) (k : ℕ) (c : Links) → Run i b j k c → Faithful i b j k c
  run_is_faithful b j k c run = reductions_are_faithful i ok b j k c (run_reduces i ok b j k c run)

  pub run_roads : NoEmptyRoad i → (b : ℕ) (j : Instance) (k : ℕ) (c : Links) → Run i b j k c → NoEmptyRoad j
  run_roads full b j k c run = (run_reduces i ok b j k c run).roads full

  pub run_no_cut :
      (b : ℕ) (j : Instance) (k : ℕ) (c : Links) → Run i b j k c → (qs : List ℕ) → DisjointPairs j k qs → HasCut i b → ⊥
  run_no_cut b j k c run qs disjoint has =
      let red = run_reduces i ok b j k c run in
      disjoint_no_cut j red.sound k qs disjoint ((reductions_are_faithful i ok b j k c red).onward has)

-- Dropping a pair loses nothing where every cut of the others within the budget parts it too.
--     drop_reduces              a drop of r reduces if every cut of what remains within the budget meets r
--     dominated_pair_reduces    what meets a pair whose road lies within r's meets r
use Rattle.std.proofs.Common.{ℕ, eqb, refl, ap, ◌∙◌, arith}
use Rattle.std.proofs.lemmas.Bool.{eqb-true, not-false}
use Rattle.cuts.proofs.Remaining.{but_for_from, on_in, onward_cut, open_from, remain_roads}
use Rattle.cuts.proofs.Sparing.{spare_reduces}
use Rattle.cuts.specs.After.{but_for, every, drop_pair}
use Rattle.cuts.specs.Instances.{Instance, Sound, Met, CutWithin}
use Rattle.cuts.specs.Links.{Links, none}
use Rattle.cuts.specs.Reduces.{Reduces}
use Rattle.cuts.specs.Rules.{DominatedPair}

module _ (i : Instance) (ok : Sound i) where
  pub drop_reduces : (k r : ℕ) → ((s : Links) → CutWithin (drop_pair i r) k s → Met i s r) → Reduces i k (drop_pair i r) k none
  drop_reduces k r met =
      spare_reduces i ok every (but_for r) k
      (λ s w p h went.
      let is-r = eqb-true p r (not-false (eqb p r) went) in
      let (x, x-in, x-on) = met s w in
      (x, x-in, ap (i.on x) is-r ∙ x-on))
      (λ s cut. (s, onward_cut i every (but_for r) s cut.inside (λ x h. refl) (λ p h _. cut.meets p h), omega arith))
      (λ full. remain_roads i every (but_for r) (λ p h _. let (x, x-on) = full p h in (x, x-on, refl)))

  pub dominated_pair_reduces : (k q r : ℕ) → DominatedPair i q r → Reduces i k (drop_pair i r) k none
  dominated_pair_reduces k q r dom =
      drop_reduces k r (λ s w.
      let (x, x-in, x-on) = w.cut.meets q (open_from i every (but_for r) q dom.inner (but_for_from r q dom.other)) in
      (x, x-in, dom.along x (on_in i every (but_for r) x q x-on)))

-- A common factor: a pair whose road has every link that k + 1 others share is parted by every cut of these within k.
--     others_met               a cut of what remains without r meets the other open pairs
--     unmet                    if a set does not meet r, no link of the set is on its road
--     common_factor_reduces    so k links that did not meet r would part k + 1 pairs one by one, against the bound
use Rattle.std.proofs.Common.{◌≡◌, ℕ, false, List, [], ◌∷◌, sym, ⊎_elim, arith}
use Rattle.std.proofs.lemmas.Bool.{cases_Bool}
use Rattle.std.proofs.lemmas.Bool.Decides.{not_from_Decides}
use Rattle.std.specs.List.{AllByRecursion}
use Rattle.cuts.proofs.Bound.{apart_bound, pairwise_weaker}
use Rattle.cuts.proofs.Dropping.{drop_reduces}
use Rattle.cuts.proofs.Remaining.{but_for_from, on_in, open_from}
use Rattle.cuts.proofs.Searching.{meets_decided}
use Rattle.cuts.specs.After.{but_for, every, drop_pair}
use Rattle.cuts.specs.Instances.{Instance, Open, Sound, Met, Cut}
use Rattle.cuts.specs.Links.{Links, Outside, none}
use Rattle.cuts.specs.Reduces.{Reduces}
use Rattle.cuts.specs.Rules.{CommonFactor, Differ, OnRoad, Share}
use Rattle.cuts.specs.Search.{meets}

module _ (i : Instance) (ok : Sound i) where
  others_met : (r : ℕ) (s : Links) → Cut (drop_pair i r) s → (qs : List ℕ) → AllByRecursion (Open i) qs → AllByRecursion (Differ r) qs → AllByRecursion (Met i s) qs
  others_met r s cut [] _ _ = tt
  others_met r s cut (q ∷ qs) (opened, more) (other, others) =
      let stays = open_from i every (but_for r) q opened (but_for_from r q (λ e. other (sym e))) in
      let (x, x-in, x-on) = cut.meets q stays in
      ((x, x-in, on_in i every (but_for r) x q x-on), others_met r s cut qs more others)

  unmet : (r : ℕ) (s : Links) → meets i s r ≡ false → (x : ℕ) → OnRoad i r x → Outside s x
  unmet r s lacks x on =
      ⊎_elim (λ x-in. absurd (not_from_Decides (meets i s r) (meets_decided i ok s r) lacks (x, x-in, on))) (λ x-out. x-out) (cases_Bool (s x))

  pub common_factor_reduces : (k r : ℕ) (qs : List ℕ) → CommonFactor i k r qs → Reduces i k (drop_pair i r) k none
  common_factor_reduces k r qs factor =
      drop_reduces i ok k r (λ s w.
      ⊎_elim
      (meets_decided i ok s r).0
      (λ lacks.
      let met = others_met r s w.cut qs factor.crowd.opened factor.others in
      let apart = pairwise_weaker (Share i (OnRoad i r)) (Share i (Outside s)) (λ p q h x a b. unmet r s lacks x (h x a b)) qs factor.shared in
      absurd (omega (arith, apart_bound i ok s qs met apart, w.small, factor.crowd.many)))
      (cases_Bool (meets i s r)))

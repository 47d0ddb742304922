-- Tests over all links, all pairs and lists of pairs, and what they decide.
--     decides_self        a truth value decides that it is true
--     decides_implies     an implication of tests
--     links_decided       a test of all links decides what can only fail of a link of the numbering
--     pairs_decided       a test of all pairs, likewise
--     list_decided        a test of each of a list
--     pairwise_decided    a test of any two of a list
use Rattle.std.proofs.Common.{◌≡◌, ℕ, ◌+◌, ◌<◌, ◌≤◌, Bool, true, not, List, [], ◌∷◌, Decides, refl, ⊎_elim, arith}
use Rattle.std.proofs.lemmas.Bool.{both_ways, cases_Bool, not_from_false, not-true, or_cases, or_left, or_right}
use Rattle.std.proofs.lemmas.Bool.Decides.{Decides-and, Decides-below_and, Decides-like}
use Rattle.std.proofs.ByRecursion.{Decides-by_and}
use Rattle.std.specs.List.{AllByRecursion, list_all, range_with_len}
use Rattle.cuts.specs.Instances.{Instance}
use Rattle.cuts.specs.Rules.{Pairwise}
use Rattle.cuts.proofs.Chains.{all_next}
use Rattle.cuts.specs.Tests.{all_links, all_pairs, implies, pairwise}

pub decides_self : (b : Bool) → Decides b (b ≡ true)
decides_self b = (λ e. e, λ e. e)

pub decides_implies : {P Q : Type 0} → (a b : Bool) → Decides a P → Decides b Q → Decides (implies a b) (P → Q)
decides_implies a b (p-from, from-p) (q-from, from-q) = (
  λ e p. ⊎_elim (λ n. absurd (both_ways a (not-true a n) (from-p p))) q-from (or_cases (not a) b e),
  λ h. ⊎_elim (λ t. or_right (not a) b (from-q (h (p-from t)))) (λ n. or_left (not a) b (not_from_false a n)) (cases_Bool a),
)

module _ (i : Instance) (f : ℕ → Bool) (P : ℕ → Type 0) (each : (x : ℕ) → Decides (f x) (P x)) where
  pub links_decided : ((x : ℕ) → (x ≤ i.highest → P x) → P x) → Decides (all_links i f) ((x : ℕ) → P x)
  links_decided inner =
      Decides-like (all_links i f)
      (λ h x. inner x (λ le. h x (omega arith)))
      (λ h x _. h x)
      (Decides-below_and f P (λ n. list_all f (range_with_len 0 n)) each refl (all_next f) (i.highest + 1))

  pub pairs_decided : ((p : ℕ) → (p < i.pairs → P p) → P p) → Decides (all_pairs i f) ((p : ℕ) → P p)
  pairs_decided inner =
      Decides-like (all_pairs i f)
      (λ h p. inner p (h p))
      (λ h p _. h p)
      (Decides-below_and f P (λ n. list_all f (range_with_len 0 n)) each refl (all_next f) i.pairs)

pub list_decided :
    (f : ℕ → Bool) (P : ℕ → Type 0) → ((x : ℕ) → Decides (f x) (P x)) → (qs : List ℕ) → Decides (list_all f qs) (AllByRecursion P qs)
list_decided f P each = Decides-by_and f P (list_all f) each refl (λ _ _. refl)

pub pairwise_decided :
    (f : ℕ → ℕ → Bool) (R : ℕ → ℕ → Type 0) → ((p q : ℕ) → Decides (f p q) (R p q)) →
    (qs : List ℕ) → Decides (pairwise f qs) (Pairwise R qs)
pairwise_decided f R each [] = (λ _. tt, λ _. refl)
pairwise_decided f R each (q ∷ qs) =
    Decides-and (list_all (f q) qs) (pairwise f qs) (list_decided (f q) (R q) (each q) qs) (pairwise_decided f R each qs)

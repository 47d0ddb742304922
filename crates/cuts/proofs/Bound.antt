-- The bound: pairs that a set meets, no two by the same link, are at most as many as the set has links.
--     pairwise_weaker    what follows from R holds of any two where R does
--     still_met          pairs that are met, and whose roads avoid x, are met without x
--     apart_bound        the bound, by taking out the link that meets the first pair
--     open_bound         of a cut and open pairs, which it meets: what they share is outside the cut
--     disjoint_bound     no cut has fewer links than there are open pairs that share no link
use Rattle.std.proofs.Common.{◌≡◌, ℕ, ◌+◌, ◌≤◌, List, [], ◌∷◌, length, sym, ap, ◌∙◌, zero-le, arith}
use Rattle.std.proofs.ByRecursion.{All-weaker}
use Rattle.std.proofs.lemmas.Bool.{both_ways, and_left}
use Rattle.std.specs.List.{AllByRecursion}
use Rattle.cuts.proofs.Counting.{count_less, less_from}
use Rattle.cuts.specs.Instances.{Instance, Open, On, Sound, Met, Cut, size}
use Rattle.cuts.specs.Links.{Links, In, Outside, less}
use Rattle.cuts.specs.Rules.{Never, Pairwise, Share}

pub pairwise_weaker :
    (R S : ℕ → ℕ → Type 0) → ((p q : ℕ) → R p q → S p q) → (qs : List ℕ) → Pairwise R qs → Pairwise S qs
pairwise_weaker R S h [] r = tt
pairwise_weaker R S h (q ∷ qs) (first, rest) = (All-weaker (R q) (S q) (h q) qs first, pairwise_weaker R S h qs rest)

module _ (i : Instance) (ok : Sound i) where
  still_met :
      (s : Links) (x q : ℕ) (qs : List ℕ) → In s x → On i x q →
      AllByRecursion (Share i (Outside s) q) qs → AllByRecursion (Met i s) qs → AllByRecursion (Met i (less s x)) qs
  still_met s x q [] x-in x-on apart met = tt
  still_met s x q (p ∷ ps) x-in x-on (apart, aparts) ((y, y-in, y-on), mets) =
      let other : y ≡ x → ⊥ = λ e. both_ways (s x) (apart x x-on (ap (λ z. i.on z p) (sym e) ∙ y-on)) x-in in
      ((y, less_from s x y y-in other, y-on), still_met s x q ps x-in x-on aparts mets)

  pub apart_bound : (s : Links) (qs : List ℕ) → AllByRecursion (Met i s) qs → Pairwise (Share i (Outside s)) qs → length qs ≤ size i s
  apart_bound s [] met apart = zero-le
  apart_bound s (q ∷ qs) ((x, x-in, x-on), mets) (first, rest) =
      let live = ok.on_live x q x-on in
      let fewer : size i s ≡ 1 + size i (less s x) = count_less s x i.highest (ok.from_one x live) (ok.to_highest x live) x-in in
      let apart : Pairwise (Share i (Outside (less s x))) qs =
      pairwise_weaker (Share i (Outside s)) (Share i (Outside (less s x))) (λ p q h y a b. and_left (s y) _ (h y a b)) qs rest in
      let more : length qs ≤ size i (less s x) = apart_bound (less s x) qs (still_met s x q qs x-in x-on first mets) apart in
      omega arith

  pub open_bound :
      (s : Links) → Cut i s → (P : ℕ → Type 0) → ((x : ℕ) → P x → Outside s x) →
      (qs : List ℕ) → AllByRecursion (Open i) qs → Pairwise (Share i P) qs → length qs ≤ size i s
  open_bound s cut P out qs opened shared =
      apart_bound s qs
      (All-weaker (Open i) (Met i s) cut.meets qs opened)
      (pairwise_weaker (Share i P) (Share i (Outside s)) (λ p q h x a b. out x (h x a b)) qs shared)

  pub disjoint_bound : (s : Links) → Cut i s → (qs : List ℕ) → AllByRecursion (Open i) qs → Pairwise (Share i Never) qs → length qs ≤ size i s
  disjoint_bound s cut = open_bound s cut Never (λ x never. absurd never)

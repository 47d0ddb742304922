-- Each rule's test is true just when the rule applies.
--     idle_link_decided, dominated_link_decided, unit_road_decided, dominated_pair_decided,
--     common_factor_decided, overloaded_link_decided, disjoint_pairs_decided    one for each rule
--     crowd_decided      whether a list is k + 1 different open pairs
--     of_link, of_pair   what is to be shown of everything on a road need be shown only within the numbering
use Rattle.std.proofs.Common.{◌≡◌, ℕ, ◌+◌, ◌<◌, ◌≤◌, Bool, ◌&&◌, eqb, List, length, Decides}
use Rattle.std.specs.List.{list_all}
use Rattle.std.proofs.lemmas.Bool.{false≢true}
use Rattle.std.proofs.lemmas.Bool.Decides.{Decides-and, Decides-eqb, Decides-like, Decides-not}
use Rattle.cuts.proofs.Deciding.{decides_implies, decides_self, links_decided, list_decided, pairs_decided, pairwise_decided}
use Rattle.cuts.specs.After.{off_road}
use Rattle.cuts.specs.Instances.{Instance, Open, On, Sound}
use Rattle.cuts.specs.Rules.{Differ, Share, OnRoad, IsLink, Never, Pairwise, IdleLink, DominatedLink, UnitRoad, DominatedPair, Crowd, CommonFactor, OverloadedLink, DisjointPairs}
use Rattle.cuts.specs.Tests.{all_links, all_pairs, also_on, differ, follows, is_common_factor, is_crowd, is_disjoint_pairs, is_dominated_link, is_dominated_pair, is_idle_link, is_link, is_overloaded_link, is_unit_road, never, on_road, pairwise, shared_is, shares, sole_on}

module _ (i : Instance) (ok : Sound i) where
  of_link : (p : ℕ) (Q : ℕ → Type 0) (x : ℕ) → (x ≤ i.highest → On i x p → Q x) → On i x p → Q x
  of_link p Q x h on = h (ok.to_highest x (ok.on_live x p on)) on

  of_pair : (l : ℕ) (Q : ℕ → Type 0) (p : ℕ) → (p < i.pairs → On i l p → Q p) → On i l p → Q p
  of_pair l Q p h on = h (ok.numbered p (ok.on_open l p on)) on

  decides_on : (l p : ℕ) → Decides (i.on l p) (On i l p)
  decides_on l p = decides_self (i.on l p)

  decides_differ : (p q : ℕ) → Decides (differ p q) (Differ p q)
  decides_differ p q = Decides-not (eqb p q) (Decides-eqb p q)

  pub idle_link_decided : (l : ℕ) → Decides (is_idle_link i l) (IdleLink i l)
  idle_link_decided l =
      Decides-like (is_idle_link i l)
      (λ (live, off). record { live = live; unused = λ p _. off p })
      (λ idle. (idle.live, λ p on. idle.unused p (ok.on_open l p on) on))
      (Decides-and (i.live l) (all_pairs i (off_road i l)) (decides_self (i.live l))
      (pairs_decided i (off_road i l) (λ p. On i l p → ⊥) (λ p. Decides-not (i.on l p) (decides_on l p)) (of_pair l (λ _. ⊥))))

  pub dominated_link_decided : (l h : ℕ) → Decides (is_dominated_link i l h) (DominatedLink i l h)
  dominated_link_decided l h =
      Decides-like (is_dominated_link i l h)
      (λ ((live, by_live), (other, along)). record { live = live; by_live = by_live; other = other; follows = λ p _. along p })
      (λ dom. ((dom.live, dom.by_live), (dom.other, λ p on. dom.follows p (ok.on_open l p on) on)))
      (Decides-and (i.live l && i.live h) (differ l h && all_pairs i (follows i l h))
      (Decides-and (i.live l) (i.live h) (decides_self (i.live l)) (decides_self (i.live h)))
      (Decides-and (differ l h) (all_pairs i (follows i l h)) (decides_differ l h)
      (pairs_decided i (follows i l h) (λ p. On i l p → On i h p)
      (λ p. decides_implies (i.on l p) (i.on h p) (decides_on l p) (decides_on h p)) (of_pair l (On i h)))))

  pub unit_road_decided : (l p : ℕ) → Decides (is_unit_road i l p) (UnitRoad i l p)
  unit_road_decided l p =
      Decides-like (is_unit_road i l p)
      (λ ((live, opened), (on, sole)). record { live = live; opened = opened; on = on; sole = sole })
      (λ unit. ((unit.live, unit.opened), (unit.on, unit.sole)))
      (Decides-and (i.live l && i.opened p) (i.on l p && all_links i (sole_on i l p))
      (Decides-and (i.live l) (i.opened p) (decides_self (i.live l)) (decides_self (i.opened p)))
      (Decides-and (i.on l p) (all_links i (sole_on i l p)) (decides_on l p)
      (links_decided i (sole_on i l p) (λ x. On i x p → x ≡ l)
      (λ x. decides_implies (i.on x p) (eqb x l) (decides_on x p) (Decides-eqb x l)) (of_link p (IsLink l)))))

  pub dominated_pair_decided : (q r : ℕ) → Decides (is_dominated_pair i q r) (DominatedPair i q r)
  dominated_pair_decided q r =
      Decides-like (is_dominated_pair i q r)
      (λ ((inner, outer), (other, along)). record { inner = inner; outer = outer; other = other; along = along })
      (λ dom. ((dom.inner, dom.outer), (dom.other, dom.along)))
      (Decides-and (i.opened q && i.opened r) (differ q r && all_links i (also_on i q r))
      (Decides-and (i.opened q) (i.opened r) (decides_self (i.opened q)) (decides_self (i.opened r)))
      (Decides-and (differ q r) (all_links i (also_on i q r)) (decides_differ q r)
      (links_decided i (also_on i q r) (λ x. On i x q → On i x r)
      (λ x. decides_implies (i.on x q) (i.on x r) (decides_on x q) (decides_on x r)) (of_link q (OnRoad i r)))))

  pub crowd_decided : (k : ℕ) (qs : List ℕ) → Decides (is_crowd i k qs) (Crowd i k qs)
  crowd_decided k qs =
      Decides-like (is_crowd i k qs)
      (λ (many, (opened, different)). record { many = many; opened = opened; different = different })
      (λ crowd. (crowd.many, (crowd.opened, crowd.different)))
      (Decides-and (eqb (length qs) (k + 1)) (list_all i.opened qs && pairwise differ qs) (Decides-eqb (length qs) (k + 1))
      (Decides-and (list_all i.opened qs) (pairwise differ qs)
      (list_decided i.opened (Open i) (λ q. decides_self (i.opened q)) qs)
      (pairwise_decided differ Differ decides_differ qs)))

  decides_shares :
      (f : ℕ → Bool) (P : ℕ → Type 0) → ((x : ℕ) → Decides (f x) (P x)) →
      (qs : List ℕ) → Decides (pairwise (shares i f) qs) (Pairwise (Share i P) qs)
  decides_shares f P each =
      pairwise_decided (shares i f) (Share i P) (λ p q.
      links_decided i (shared_is i f p q) (λ x. On i x p → On i x q → P x)
      (λ x. Decides-like (shared_is i f p q x) (λ h a b. h (a, b)) (λ h (a, b). h a b)
      (decides_implies (i.on x p && i.on x q) (f x) (Decides-and (i.on x p) (i.on x q) (decides_on x p) (decides_on x q)) (each x)))
      (of_link p (λ x. On i x q → P x)))

  pub common_factor_decided : (k r : ℕ) (qs : List ℕ) → Decides (is_common_factor i k r qs) (CommonFactor i k r qs)
  common_factor_decided k r qs =
      Decides-like (is_common_factor i k r qs)
      (λ ((opened, crowd), (others, shared)). record { opened = opened; crowd = crowd; others = others; shared = shared })
      (λ factor. ((factor.opened, factor.crowd), (factor.others, factor.shared)))
      (Decides-and (i.opened r && is_crowd i k qs) (list_all (differ r) qs && pairwise (shares i (on_road i r)) qs)
      (Decides-and (i.opened r) (is_crowd i k qs) (decides_self (i.opened r)) (crowd_decided k qs))
      (Decides-and (list_all (differ r) qs) (pairwise (shares i (on_road i r)) qs)
      (list_decided (differ r) (Differ r) (decides_differ r) qs)
      (decides_shares (on_road i r) (OnRoad i r) (λ x. decides_on x r) qs)))

  pub overloaded_link_decided : (k l : ℕ) (qs : List ℕ) → Decides (is_overloaded_link i k l qs) (OverloadedLink i k l qs)
  overloaded_link_decided k l qs =
      Decides-like (is_overloaded_link i k l qs)
      (λ ((live, crowd), (through, shared)). record { live = live; crowd = crowd; through = through; shared = shared })
      (λ over. ((over.live, over.crowd), (over.through, over.shared)))
      (Decides-and (i.live l && is_crowd i k qs) (list_all (i.on l) qs && pairwise (shares i (is_link l)) qs)
      (Decides-and (i.live l) (is_crowd i k qs) (decides_self (i.live l)) (crowd_decided k qs))
      (Decides-and (list_all (i.on l) qs) (pairwise (shares i (is_link l)) qs)
      (list_decided (i.on l) (On i l) (decides_on l) qs)
      (decides_shares (is_link l) (IsLink l) (λ x. Decides-eqb x l) qs)))

  pub disjoint_pairs_decided : (k : ℕ) (qs : List ℕ) → Decides (is_disjoint_pairs i k qs) (DisjointPairs i k qs)
  disjoint_pairs_decided k qs =
      Decides-like (is_disjoint_pairs i k qs)
      (λ (crowd, shared). record { crowd = crowd; shared = shared })
      (λ apart. (apart.crowd, apart.shared))
      (Decides-and (is_crowd i k qs) (pairwise (shares i never) qs) (crowd_decided k qs)
      (decides_shares never Never (λ x. (λ e. false≢true e, λ z. absurd z)) qs))

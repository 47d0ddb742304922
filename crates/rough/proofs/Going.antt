-- Going through pairs in order keeps what makes the rough cut good.
--     Kept m g ps a      a pair written down is open, its tops are chosen, and no pair still to come has a greater rank
--     Sofar m g ps       how things stand where the pairs ps are still to come
--     sofar_none         at the beginning
--     sofar_all          after all pairs, if they come in order and none has an empty road
use Rattle.std.proofs.Common.{◌≡◌, ℕ, ◌*◌, ◌≤◌, true, false, eqb, ◌⊎◌, List, [], ◌∷◌, length, sym, refl, ap, ◌∙◌, subst, inl, inr, ⊎_elim, arith}
use Rattle.std.specs.List.{AllByRecursion}
use Rattle.std.proofs.ByRecursion.{All-push, All-weaker}
use Rattle.std.proofs.lemmas.List.{length_push}
use Rattle.std.proofs.lemmas.Bool.{both_ways, cases_Bool, cond-false, cond-true, eqb-true, or_cases, or_left, or_right}
use Rattle.cuts.specs.Instances.{Live, Met, Open, size}
use Rattle.cuts.specs.Links.{In, none, union}
use Rattle.cuts.specs.Rules.{Never, Pairwise, Share}
use Rattle.cuts.specs.Search.{meets}
use Rattle.cuts.proofs.Counting.{count_empty, count_union}
use Rattle.cuts.proofs.Searching.{meets_decided}
use Rattle.plan.specs.Tree.{among}
use Rattle.book.specs.Meaning.{Lawful, Meaning, rank_at}
use Rattle.book.specs.Posed.{lawful_sound, posed}
use Rattle.rough.proofs.Pairs.{pairwise_push}
use Rattle.rough.proofs.Tops.{tops, tops_apart, tops_few, tops_live, tops_meet, with_tops_lem}
use Rattle.rough.specs.Order.{Before}
use Rattle.rough.specs.Outcome.{empty_road}
use Rattle.rough.specs.Run.{Gone, go_through, none_gone, take_up, written_down}

-- q has no greater rank than a
abbrev pub Lower : Meaning → ℕ → ℕ → Type 0
Lower m a q = rank_at m q ≤ rank_at m a

pub record Kept (m : Meaning) (g : Gone) (ps : List ℕ) (a : ℕ) : Type 0 where
  pub opened : Open (posed m) a
  pub chosen : (x : ℕ) → In (tops m a) x → In g.chosen x
  pub low : AllByRecursion (Lower m a) ps

pub record Sofar (m : Meaning) (g : Gone) (ps : List ℕ) : Type 0 where
  pub inside : (l : ℕ) → In g.chosen l → Live (posed m) l
  pub met : (p : ℕ) → Open (posed m) p → Met (posed m) g.chosen p ⊎ (among p ps ≡ true)
  pub kept : AllByRecursion (Kept m g ps) g.apart
  pub apart : Pairwise (Share (posed m) Never) g.apart
  pub few : size (posed m) g.chosen ≤ 2 * length g.apart

module _ (m : Meaning) (law : Lawful m) where
  pub sofar_none : (ps : List ℕ) → ((p : ℕ) → Open (posed m) p → among p ps ≡ true) → Sofar m none_gone ps
  sofar_none ps every = record {
    inside = λ l e. let z : ◌≡◌ {A = ℕ} 0 1 = cc in absurd (omega arith);
    met = λ p o. inr (every p o);
    kept = tt;
    apart = tt;
    few = let e = count_empty none (λ x. refl) m.highest in omega arith;
  }

  module _ (g : Gone) (p : ℕ) (ps : List ℕ) (so : Sofar m g (p ∷ ps)) where
    -- the pair is met already
    passed : Met (posed m) g.chosen p → Sofar m g ps
    passed here = record {
      inside = so.inside;
      met = λ q o.
          ⊎_elim inl
          (λ e. ⊎_elim (λ is. inl (subst (Met (posed m) g.chosen) (sym (eqb-true q p is)) here)) inr (or_cases (eqb q p) (among q ps) e))
          (so.met q o);
      kept = All-weaker (Kept m g (p ∷ ps)) (Kept m g ps) (λ a k. record { opened = k.opened; chosen = k.chosen; low = k.low.1 }) g.apart so.kept;
      apart = so.apart;
      few = so.few;
    }

    -- it is not, and is written down
    written : Open (posed m) p → empty_road m p ≡ false → AllByRecursion (Lower m p) ps → (Met (posed m) g.chosen p → ⊥) → Sofar m (written_down m g p) ps
    written o full low unmet =
        let s = g.chosen in
        let h = written_down m g p in
        let all : h.chosen ≡ union s (tops m p) = with_tops_lem m s p in
        let more : (x : ℕ) → In s x → In h.chosen x = λ x e. ap (λ t. t x) all ∙ or_left (s x) (tops m p x) e in
        let tops-in : (x : ℕ) → In (tops m p) x → In h.chosen x = λ x e. ap (λ t. t x) all ∙ or_right (s x) (tops m p x) e in
        let wider : (q : ℕ) → Met (posed m) s q → Met (posed m) h.chosen q = λ q (x, x-in, x-on). (x, more x x-in, x-on) in
        let here : Met (posed m) h.chosen p = let (x, x-in, x-on) = tops_meet m law p o full in (x, tops-in x x-in, x-on) in
        let others : AllByRecursion (Kept m h ps) g.apart =
        All-weaker (Kept m g (p ∷ ps)) (Kept m h ps) (λ a k. record { opened = k.opened; chosen = λ x e. more x (k.chosen x e); low = k.low.1 }) g.apart so.kept in
        record {
          inside = λ l e. ⊎_elim (so.inside l) (tops_live m law p l o) (or_cases (s l) (tops m p l) (ap (λ t. t l) (sym all) ∙ e));
          met = λ q oq.
              ⊎_elim (λ k. inl (wider q k))
              (λ e. ⊎_elim (λ is. inl (subst (Met (posed m) h.chosen) (sym (eqb-true q p is)) here)) inr (or_cases (eqb q p) (among q ps) e))
              (so.met q oq);
          kept = All-push (Kept m h ps) g.apart p others (record { opened = o; chosen = tops-in; low = low });
          apart = pairwise_push (Share (posed m) Never) g.apart p so.apart
              (All-weaker (Kept m g (p ∷ ps)) (λ a. Share (posed m) Never a p) (λ a k. tops_apart m law s a p k.opened o k.low.0 k.chosen unmet) g.apart so.kept);
          few = omega (arith, so.few, tops_few m law p o, count_union s (tops m p) m.highest, ap (size (posed m)) all, length_push g.apart p);
        }

    pub sofar_more : Open (posed m) p → empty_road m p ≡ false → AllByRecursion (Lower m p) ps → Sofar m (take_up m g p) ps
    sofar_more o full low =
        let t = meets (posed m) g.chosen p in
        let decided = meets_decided (posed m) (lawful_sound m law) g.chosen p in
        ⊎_elim
        (λ e. subst (λ h. Sofar m h ps) (sym (cond-true t g (written_down m g p) e)) (passed (decided.0 e)))
        (λ e. subst (λ h. Sofar m h ps) (sym (cond-false t g (written_down m g p) e)) (written o full low (λ k. both_ways t e (decided.1 k))))
        (cases_Bool t)

  before_lower : (p q : ℕ) → Before m p q → Lower m p q
  before_lower p q e = ⊎_elim (λ h. omega arith) (λ (h, _). omega arith) e

  pub sofar_all :
      (ps : List ℕ) (g : Gone) → Pairwise (Before m) ps → AllByRecursion (Open (posed m)) ps → ((p : ℕ) → Open (posed m) p → empty_road m p ≡ false) →
      Sofar m g ps → Sofar m (go_through m g ps) []
  sofar_all [] g order opened full so = so
  sofar_all (p ∷ ps) g (first, rest) (o, os) full so =
      sofar_all ps (take_up m g p) rest os full (sofar_more g p ps so o (full p o) (All-weaker (Before m p) (Lower m p) (before_lower p) ps first))

-- The first under an order, found by a chain that picks the least of the numbers by a key.
--     picks_by_key    where each call answers the key of its item, `min_by_key` picks as `min` does by the order of the keys
--     picked_is       of two numbers, the one with the greater rank is picked, and the lower one at equal ranks
--     nearest_is      of the numbers that a set has, the first is picked
use Rattle.std.proofs.Common.{◌≡◌, ℕ, zero, suc, ◌<◌, Bool, true, false, cond, List, [], ◌∷◌, ◌++◌, Some, None, Option, filter, option_map, sym, refl, ap, ◌∙◌, subst, arith}
use mathlib.Core.List.{append-nil, map-id}
use denote.Ref.{Bor}
use denote.Param.Members.{Mut}
use Rattle.std.proofs.lemmas.Bool.{cond_both}
use Rattle.std.proofs.lemmas.Iterator.{YieldsList, items_from_drains}
use Rattle.std.proofs.lemmas.List.Elements.{filter-append}
use Rattle.std.proofs.lemmas.List.Sums.{fold-append}
use Rattle.std.proofs.lemmas.Option.{none-some, same_Some}
use Rattle.std.specs.Fn.{CalledAt}
use Rattle.std.specs.Iterator.{KeyTurn, PicksMinByKey}
use Rattle.std.specs.List.{FoldsTo, fold, range_with_len, reduce}
use Rattle.std.specs.Option.{unwrap_or}
use Rattle.std.specs.declared.cmp.Ordering.{Ordering}
use Rattle.std.specs.declared.cmp.Ordering.TheVariants.{Less, Equal, Greater}
use Rattle.std.specs.Ordering.{min_by_ordering, nat_cmp}
use Rattle.cuts.proofs.Chains.{range_next}
use Rattle.rough.specs.Order.{earlier, first_of, nearer}

module _ {A K F : Type 0} (g : Mut F (Bor A × Unit {0}) K) (cmp : K → K → Ordering) (key : A → K) (f : F)
    (answers : (x : A) (r : K) (q : F) → CalledAt g f x r q → (q ≡ f) × (r ≡ key x)) where
  abbrev picked : A → A → A
  picked p z = min_by_ordering (cmp (key p) (key z)) p z

  key_picked : (o : Ordering) (p z : A) → min_by_ordering o (key p) (key z) ≡ key (min_by_ordering o p z)
  key_picked Less p z = refl
  key_picked Equal p z = refl
  key_picked Greater p z = refl

  turns : (xs : List A) (p q : (F × K) × A) → p.0.0 ≡ f → p.0.1 ≡ key p.1 → FoldsTo {P = (F × K) × A} (KeyTurn min_by_ordering min_by_ordering g cmp) p xs q → q.1 ≡ fold picked p.1 xs
  turns [] p q a b c = ap (λ w. w.1) (sym c)
  turns (x ∷ xs) p q a b (n, (k, o, called, is, new, best), rest) =
      let m = answers x k n.0.0 (subst (λ w. CalledAt g w x k n.0.0) a called) in
      let by : o ≡ cmp (key p.1) (key x) = sym is ∙ ap (λ w. cmp w k) b ∙ ap (cmp (key p.1)) m.1 in
      turns xs n q m.0 (new ∙ ap (λ w. min_by_ordering o w k) b ∙ ap (min_by_ordering o (key p.1)) m.1 ∙ key_picked o p.1 x ∙ ap key (sym best)) rest ∙
      ap (λ w. fold picked w xs) (best ∙ ap (λ o. min_by_ordering o p.1 x) by)

  pub picks_by_key :
      {S : Type 0} {steps : S → Option A → S → Type 0} {all : List A} (s : S) (r : Option A) →
      PicksMinByKey steps g cmp s f r → YieldsList steps (λ x. x) s all → r ≡ reduce picked all
  picks_by_key {steps = steps} {all} s None (u, (t, calls, end)) e = ap (reduce picked) (items_from_drains [] (t, calls, λ _. (u, end)) e)
  picks_by_key {steps = steps} {all} s (Some y) (x, xs, k, f', q, (u, (t, calls, end)), called, rest) e =
      let m = answers x k f' called in
      ap Some (turns xs ((f', k), x) (q, y) m.0 m.1 rest) ∙
      ap (reduce picked) (sym (map-id (x ∷ xs)) ∙ items_from_drains (x ∷ xs) (t, calls, λ _. (u, end)) e)

pub picked_is : (r : ℕ → ℕ) (p q : ℕ) → q < p → min_by_ordering (nat_cmp (r p) (r q)) q p ≡ cond (earlier r p q) p q
picked_is r p q lt = grind arith

reduce-append : {X : Type 0} (f : X → X → X) (xs : List X) (x : X) → reduce f (xs ++ (x ∷ [])) ≡ Some (unwrap_or (option_map (λ y. f y x) (reduce f xs)) x)
reduce-append f [] x = refl
reduce-append f (y ∷ ys) x = ap Some (fold-append f y ys (x ∷ []))

module _ (pick : ℕ → ℕ → ℕ) (b : ℕ → ℕ → Bool) (f : ℕ → Bool) (picks : (p q : ℕ) → q < p → pick q p ≡ cond (b p q) p q) where
  nearer_below : (n : ℕ) (o : Option ℕ) → ((p : ℕ) → o ≡ Some p → p < n) → nearer b n o < suc n
  nearer_below n None below = omega arith
  nearer_below n (Some p) below = let lt = below p refl in cond_both (b n p) n p (λ q. q < suc n) (λ _. omega arith) (λ _. omega arith)

  first_below : (n p : ℕ) → first_of b f n ≡ Some p → p < n
  first_below zero p e = absurd (none-some p e)
  first_below (suc n) p e =
      let o = first_of b f n in
      let below : (q : ℕ) → o ≡ Some q → q < n = first_below n in
      cond_both (f n) (Some (nearer b n o)) o (λ w. w ≡ Some p → p < suc n)
      (λ _ is. subst (λ q. q < suc n) (same_Some _ p is) (nearer_below n o below)) (λ _ is. let lt = below p is in omega arith) e

  nearer_is : (n : ℕ) (o : Option ℕ) → ((p : ℕ) → o ≡ Some p → p < n) → unwrap_or (option_map (λ y. pick y n) o) n ≡ nearer b n o
  nearer_is n None below = refl
  nearer_is n (Some p) below = picks n p (below p refl)

  one_more :
      (n : ℕ) (xs : List ℕ) (o : Option ℕ) (has : Bool) → ((p : ℕ) → o ≡ Some p → p < n) → reduce pick xs ≡ o →
      reduce pick (xs ++ cond has (n ∷ []) []) ≡ cond has (Some (nearer b n o)) o
  one_more n xs o true below e = reduce-append pick xs n ∙ ap (λ o. Some (unwrap_or (option_map (λ y. pick y n) o) n)) e ∙ ap Some (nearer_is n o below)
  one_more n xs o false below e = ap (reduce pick) (append-nil xs) ∙ e

  pub nearest_is : (n : ℕ) → reduce pick (filter f (range_with_len 0 n)) ≡ first_of b f n
  nearest_is zero = refl
  nearest_is (suc n) =
      ap (reduce pick) (ap (filter f) (range_next n) ∙ filter-append f (range_with_len 0 n) (n ∷ [])) ∙
      one_more n (filter f (range_with_len 0 n)) (first_of b f n) (f n) (first_below n) (nearest_is n)

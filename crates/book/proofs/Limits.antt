-- The limits that the law of books sets.
--     live_below, open_below    a live link and an open pair are below 256
--     different_fits            different numbers from 1 to h are at most h many
--     rank_low                  no rank is over 255
--     leg_short                 so no leg has more than 255 links
use Rattle.std.proofs.Common.{◌≡◌, ℕ, suc, ◌<◌, ◌≤◌, true, false, eqb, List, [], ◌∷◌, length, Some, sym, refl, ap, ⊎_elim, arith}
use Rattle.std.specs.List.{AllByRecursion, IsDistinct, list_any, slice_get}
use Rattle.std.proofs.lemmas.Map.Keys.{IsDistinct-cons}
use Rattle.std.proofs.lemmas.Map.Steps.{length-le_from_distinct_below}
use Rattle.std.proofs.lemmas.Bool.{eqb-true, or_cases, cases_Bool, cond-false, cond-true, ne_eqb}
use Rattle.book.specs.Meaning.{Different, Lawful, Meaning, leg_of, rank_at}
use Rattle.book.specs.declared.leg.Leg.{Leg}

pub live_below : (m : Meaning) → Lawful m → (l : ℕ) → m.live l ≡ true → l < 256
live_below m law l e = omega (arith, (law.live_in l e).1, law.few_links)

pub open_below : (m : Meaning) → Lawful m → (p : ℕ) → m.opened p ≡ true → p < 256
open_below m law p e = omega (arith, law.opened_in p e, law.few_pairs)

differ_from : (x : ℕ) (xs : List ℕ) → ((k : ℕ) → slice_get xs k ≡ Some x → ⊥) → AllByRecursion (λ y. eqb x y ≡ false) xs
differ_from x [] apart = tt
differ_from x (y ∷ ys) apart = (ne_eqb x y (λ e. apart 0 (ap Some (sym e))), differ_from x ys (λ k. apart (suc k)))

distinct : (xs : List ℕ) → Different xs → IsDistinct eqb xs
unfolding IsDistinct
distinct [] d = tt
distinct (x ∷ xs) d = (
  differ_from x xs (λ k h. let z : 0 ≡ suc k = d 0 (suc k) x refl h in omega arith),
  distinct xs (λ i j y p q. let h : suc i ≡ suc j = d (suc i) (suc j) y p q in omega arith),
)

any_at : (x : ℕ) (xs : List ℕ) → list_any (eqb x) xs ≡ true → (k : ℕ) × (slice_get xs k ≡ Some x)
any_at x [] e = absurd (cc)
any_at x (y ∷ ys) e =
    ⊎_elim (λ h. (0, ap Some (sym (eqb-true x y h)))) (λ h. let r = any_at x ys h in (suc r.0, r.1)) (or_cases (eqb x y) (list_any (eqb x) ys) e)

-- with 0 before them, they are below h + 1
pub different_fits : (h : ℕ) (xs : List ℕ) → Different xs → ((k x : ℕ) → slice_get xs k ≡ Some x → (0 < x) × (x ≤ h)) → length xs ≤ h
different_fits h xs d bounds =
    let apart = differ_from 0 xs (λ k e. omega (arith, (bounds k 0 e).0)) in
    let below : (x : ℕ) → list_any (eqb x) (0 ∷ xs) ≡ true → x < suc h = λ x e.
    ⊎_elim
    (λ z. omega (arith, eqb-true x 0 z))
    (λ more. let r = any_at x xs more in omega (arith, (bounds r.0 x r.1).1))
    (or_cases (eqb x 0) (list_any (eqb x) xs) e) in
    omega (arith, length-le_from_distinct_below (0 ∷ xs) (suc h) (IsDistinct-cons eqb 0 xs apart (distinct xs d)) below)

pub leg_short : (m : Meaning) → Lawful m → (s : Leg) (p : ℕ) → m.opened p ≡ true → length (leg_of m s p) ≤ 255
leg_short m law s p e =
    let h : length (leg_of m s p) ≤ m.highest = different_fits m.highest (leg_of m s p) (law.different s p e) (λ k x f. law.live_in x (law.live_legs s p k x e f)) in
    omega (arith, law.few_links)

pub rank_low : (m : Meaning) → Lawful m → (p : ℕ) → rank_at m p ≤ 255
rank_low m law p =
    ⊎_elim
    (λ e. omega (arith, cond-true (m.opened p) (m.rank p) 0 e, law.low_rank p e))
    (λ e. omega (arith, cond-false (m.opened p) (m.rank p) 0 e))
    (cases_Bool (m.opened p))

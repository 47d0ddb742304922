-- A test of any two of listed pairs, as a loop finds it out from the front of the list.
--     pairwise_more     the front has passed
--     pairwise_fails    two of the front that fail decide
use Rattle.std.proofs.Common.{◌≡◌, ℕ, zero, suc, ◌+◌, ◌<◌, Bool, true, false, ◌&&◌, List, [], ◌∷◌, ◌++◌, length, get_or, take, sym, refl, ap, ◌∙◌, ⊎_elim, arith}
use Rattle.std.specs.List.{list_all}
use mathlib.Core.Bool.{and-true}
use Rattle.std.proofs.lemmas.List.Folds.{list_all-append}
use Rattle.std.proofs.lemmas.List.{take_more}
use Rattle.std.proofs.lemmas.Bool.{and_from, and_parts, both_ways, cases_Bool}
use Rattle.cuts.specs.Tests.{pairwise}
use Rattle.rules.specs.Sharing.{towards}

all_push : (f : ℕ → Bool) (qs : List ℕ) (q : ℕ) → list_all f (qs ++ (q ∷ [])) ≡ (list_all f qs && f q)
all_push f qs q = list_all-append f qs (q ∷ []) ∙ ap (λ b. list_all f qs && b) (and-true (f q))

-- regroups three tests
turn : (a b c d : Bool) → ((a && b) && (c && d)) ≡ ((a && c) && (b && d))
turn a b c d = grind arith

pairwise_push : (f : ℕ → ℕ → Bool) (qs : List ℕ) (q : ℕ) → pairwise f (qs ++ (q ∷ [])) ≡ (pairwise f qs && list_all (towards f q) qs)
pairwise_push f [] q = refl
pairwise_push f (p ∷ ps) q =
    ap (λ b. b && pairwise f (ps ++ (q ∷ []))) (all_push (f p) ps q) ∙
    ap (λ b. (list_all (f p) ps && f p q) && b) (pairwise_push f ps q) ∙
    turn (list_all (f p) ps) (f p q) (pairwise f ps) (list_all (towards f q) ps)

pub pairwise_more : (f : ℕ → ℕ → Bool) (qs : List ℕ) (k : ℕ) → k < length qs → pairwise f (take k qs) ≡ true → list_all (towards f (get_or qs k 0)) (take k qs) ≡ true → pairwise f (take (k + 1) qs) ≡ true
pairwise_more f qs k h so_far here =
    ap (pairwise f) (take_more qs k 0 h) ∙ pairwise_push f (take k qs) (get_or qs k 0) ∙
    and_from (pairwise f (take k qs)) (list_all (towards f (get_or qs k 0)) (take k qs)) so_far here

-- what holds of a list holds of its front
all_front : (f : ℕ → Bool) (n : ℕ) (qs : List ℕ) → list_all f qs ≡ true → list_all f (take n qs) ≡ true
all_front f zero qs e = refl
all_front f (suc n) [] e = refl
all_front f (suc n) (q ∷ qs) e = let h = and_parts (f q) (list_all f qs) e in and_from (f q) (list_all f (take n qs)) h.0 (all_front f n qs h.1)

pairwise_front : (f : ℕ → ℕ → Bool) (n : ℕ) (qs : List ℕ) → pairwise f qs ≡ true → pairwise f (take n qs) ≡ true
pairwise_front f zero qs e = refl
pairwise_front f (suc n) [] e = refl
pairwise_front f (suc n) (q ∷ qs) e =
    let h = and_parts (list_all (f q) qs) (pairwise f qs) e in
    and_from (list_all (f q) (take n qs)) (pairwise f (take n qs)) (all_front (f q) n qs h.0) (pairwise_front f n qs h.1)

pub pairwise_fails : (f : ℕ → ℕ → Bool) (qs : List ℕ) (k : ℕ) → k < length qs → list_all (towards f (get_or qs k 0)) (take k qs) ≡ false → pairwise f qs ≡ false
pairwise_fails f qs k h fails =
    ⊎_elim
    (λ all.
    let split = sym (ap (pairwise f) (take_more qs k 0 h) ∙ pairwise_push f (take k qs) (get_or qs k 0)) ∙ pairwise_front f (k + 1) qs all in
    absurd (both_ways _ fails (and_parts (pairwise f (take k qs)) (list_all (towards f (get_or qs k 0)) (take k qs)) split).1))
    (λ not-all. not-all)
    (cases_Bool (pairwise f qs))

-- The pairs that a cut drops.
--     length_drops    as many marks as before
--     dropped_here    a pair that passes the test is dropped
--     dropped_not     and one that does not stays as it was
--     drop_more       one pair more, that is dropped
--     drop_past       and one that stays
use Rattle.std.proofs.Common.{◌≡◌, ℕ, zero, suc, ◌+◌, ◌<◌, ◌≤◌, Bool, true, false, ◌≢◌, List, length, get_or, set, sym, refl, ap, ◌∙◌, ⊎_elim, add-one, arith}
use Rattle.std.proofs.lemmas.List.{get_or-set_other, get_or-set_same, length-set}
use Rattle.std.proofs.lemmas.Bool.{both_ways, cases_Bool, cases_eq, cond-false, cond-true}
use Rattle.working.specs.Marking.{drop_where}

pub length_drops : (f : ℕ → Bool) (n : ℕ) (ds : List Bool) → length (drop_where f n ds) ≡ length ds
length_drops f zero ds = refl
length_drops f (suc n) ds =
    ⊎_elim
    (λ e. ap length (cond-true (f n) (set (drop_where f n ds) n true) (drop_where f n ds) e) ∙ length-set (drop_where f n ds) n true ∙ length_drops f n ds)
    (λ e. ap length (cond-false (f n) (set (drop_where f n ds) n true) (drop_where f n ds) e) ∙ length_drops f n ds)
    (cases_Bool (f n))

pub dropped_here : (f : ℕ → Bool) (n : ℕ) (ds : List Bool) (p : ℕ) → n ≤ length ds → p < n → f p ≡ true → get_or (drop_where f n ds) p false ≡ true
dropped_here f zero ds p fits h e = absurd (omega arith)
dropped_here f (suc n) ds p fits h e =
    ⊎_elim
    (λ is.
    let here = cond-true (f n) (set (drop_where f n ds) n true) (drop_where f n ds) (ap f (sym is) ∙ e) in
    ap (λ xs. get_or xs p false) here ∙ ap (λ k. get_or (set (drop_where f n ds) n true) k false) is ∙
    get_or-set_same (drop_where f n ds) n true false (omega (arith, length_drops f n ds)))
    (λ ne.
    let before = dropped_here f n ds p (omega arith) (omega (arith, ne)) e in
    ⊎_elim
    (λ t. ap (λ xs. get_or xs p false) (cond-true (f n) (set (drop_where f n ds) n true) (drop_where f n ds) t) ∙ get_or-set_other (drop_where f n ds) n p true false ne ∙ before)
    (λ t. ap (λ xs. get_or xs p false) (cond-false (f n) (set (drop_where f n ds) n true) (drop_where f n ds) t) ∙ before)
    (cases_Bool (f n)))
    (cases_eq p n)

pub dropped_not : (f : ℕ → Bool) (n : ℕ) (ds : List Bool) (p : ℕ) → f p ≡ false → get_or (drop_where f n ds) p false ≡ get_or ds p false
dropped_not f zero ds p e = refl
dropped_not f (suc n) ds p e =
    ⊎_elim
    (λ t.
    let ne : p ≢ n = λ is. both_ways (f n) (ap f (sym is) ∙ e) t in
    ap (λ xs. get_or xs p false) (cond-true (f n) (set (drop_where f n ds) n true) (drop_where f n ds) t) ∙ get_or-set_other (drop_where f n ds) n p true false ne ∙ dropped_not f n ds p e)
    (λ t. ap (λ xs. get_or xs p false) (cond-false (f n) (set (drop_where f n ds) n true) (drop_where f n ds) t) ∙ dropped_not f n ds p e)
    (cases_Bool (f n))

-- one pair more: a pair whose road passes the link is dropped, and one whose road does not stays
module _ (f : ℕ → Bool) (p : ℕ) (ds : List Bool) where
  pub drop_more : f p ≡ true → drop_where f (p + 1) ds ≡ set (drop_where f p ds) p true
  drop_more e = rw (add-one p) (cond-true (f p) (set (drop_where f p ds) p true) (drop_where f p ds) e)

  pub drop_past : f p ≡ false → drop_where f (p + 1) ds ≡ drop_where f p ds
  drop_past e = rw (add-one p) (cond-false (f p) (set (drop_where f p ds) p true) (drop_where f p ds) e)

-- Tests of the numbers below a bound, one number more.
--     range_next    the numbers themselves
--     all_next      whether all pass a test
--     any_next      whether one does
use Rattle.std.proofs.Common.{◌≡◌, ℕ, suc, ◌+◌, Bool, ◌&&◌, ◌||◌, [], ◌∷◌, ◌++◌, sym, ap, ◌∙◌, add-one, arith}
use Rattle.std.proofs.Math.Bool.{and_comm, or_comm}
use mathlib.Core.Bool.{and-true, or-false}
use Rattle.std.proofs.lemmas.List.{map-id}
use Rattle.std.proofs.lemmas.List.Folds.{list_all-append, list_any-append}
use Rattle.std.proofs.lemmas.List.FromFn.{map-range_with_len_more}
use Rattle.std.specs.List.{list_all, list_any, range_with_len}

pub range_next : (n : ℕ) → range_with_len 0 (suc n) ≡ range_with_len 0 n ++ (n ∷ [])
range_next n =
    ap (range_with_len 0) (sym (add-one n)) ∙ sym (map-id (range_with_len 0 (n + 1))) ∙
    map-range_with_len_more (λ x. x) 0 n n (omega arith) ∙ ap (λ xs. xs ++ (n ∷ [])) (map-id (range_with_len 0 n))

pub all_next : (f : ℕ → Bool) (n : ℕ) → list_all f (range_with_len 0 (suc n)) ≡ (f n && list_all f (range_with_len 0 n))
all_next f n =
    let xs = range_with_len 0 n in
    ap (list_all f) (range_next n) ∙ list_all-append f xs (n ∷ []) ∙
    ap (λ b. list_all f xs && b) (and-true (f n)) ∙ and_comm (list_all f xs) (f n)

pub any_next : (f : ℕ → Bool) (n : ℕ) → list_any f (range_with_len 0 (suc n)) ≡ (f n || list_any f (range_with_len 0 n))
any_next f n =
    let xs = range_with_len 0 n in
    ap (list_any f) (range_next n) ∙ list_any-append f xs (n ∷ []) ∙
    ap (λ b. list_any f xs || b) (or-false (f n)) ∙ or_comm (list_any f xs) (f n)

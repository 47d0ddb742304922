-- The first line of a text.
--     first_newline    where a search finds the first newline, or else the end
--     first_line       the first line goes on to there
--     next_line        the same, from a place on
use Rattle.std.proofs.Common.{◌≡◌, ℕ, suc, ◌+◌, ◌-◌, ◌<◌, true, false, not, List, [], ◌∷◌, length, take, drop, Option, refl, sym, ap, ◌∙◌, ⊎_elim, add-one, arith}
use Rattle.std.proofs.lemmas.Iterator.{index_from_first}
use Rattle.std.proofs.lemmas.List.{drop-drop, length-drop, take_rest}
use Rattle.std.specs.List.{AllWithin, HoldsAt, position_or_len}
use Rattle.std.specs.Option.{MatchOption, unwrap_or}
use Rattle.std.proofs.lemmas.Bool.{cases_Bool, cond-false, cond-true, not_from_false, not_from_true}
use Rattle.lines.specs.Lines.{is_newline, lines_of, open_line}

abbrev end : List ℕ → ℕ
end = position_or_len is_newline

stops : (b : ℕ) (bs : List ℕ) → is_newline b ≡ true → end (b ∷ bs) ≡ 0
stops b bs e = cond-false (not (is_newline b)) (1 + end bs) 0 (not_from_true (is_newline b) e)

goes_on : (b : ℕ) (bs : List ℕ) → is_newline b ≡ false → end (b ∷ bs) ≡ suc (end bs)
goes_on b bs e = cond-true (not (is_newline b)) (1 + end bs) 0 (not_from_false (is_newline b) e) ∙ (omega arith)

pub first_newline :
    (bs : List ℕ) (r : Option ℕ) →
    MatchOption r (AllWithin (λ b. is_newline b ≡ false) bs 0 (length bs)) (λ i. (i < length bs) × HoldsAt (λ b. is_newline b ≡ true) bs i × AllWithin (λ b. is_newline b ≡ false) bs 0 i) →
    end bs ≡ unwrap_or r (length bs)
first_newline = index_from_first end (λ b. is_newline b ≡ true) (λ b. is_newline b ≡ false) refl stops (λ b bs e. goes_on b bs e ∙ sym (add-one (end bs)))

abbrev FirstLine : List ℕ → Type 0
FirstLine bs = lines_of bs ≡ take (end bs) bs ∷ lines_of (drop (suc (end bs)) bs)

ends_here : (b : ℕ) (bs : List ℕ) → is_newline b ≡ true → FirstLine (b ∷ bs)
ends_here b bs e =
    cond-true (is_newline b) ([] ∷ lines_of bs) (open_line b (lines_of bs)) e ∙
    sym (ap (λ n. take n (b ∷ bs) ∷ lines_of (drop (suc n) (b ∷ bs))) (stops b bs e))

longer : (b : ℕ) (bs : List ℕ) → is_newline b ≡ false → open_line b (lines_of bs) ≡ (b ∷ take (end bs) bs) ∷ lines_of (drop (suc (end bs)) bs) → FirstLine (b ∷ bs)
longer b bs e more =
    cond-false (is_newline b) ([] ∷ lines_of bs) (open_line b (lines_of bs)) e ∙ more ∙
    sym (ap (λ n. take n (b ∷ bs) ∷ lines_of (drop (suc n) (b ∷ bs))) (goes_on b bs e))

pub first_line : (bs : List ℕ) → 0 < length bs → FirstLine bs
first_line [] h = absurd (omega arith)
first_line (b ∷ []) h = ⊎_elim (ends_here b []) (λ e. longer b [] e refl) (cases_Bool (is_newline b))
first_line (b ∷ c ∷ cs) h = ⊎_elim (ends_here b (c ∷ cs)) (λ e. longer b (c ∷ cs) e (ap (open_line b) (first_line (c ∷ cs) (omega arith)))) (cases_Bool (is_newline b))

pub next_line : (bs : List ℕ) (i n : ℕ) → i < length bs → n ≡ end (take (length bs - i) (drop i bs)) → lines_of (drop i bs) ≡ take n (take (length bs - i) (drop i bs)) ∷ lines_of (drop (i + n + 1) bs)
next_line bs i n inside e =
    let rest = take (length bs - i) (drop i bs) in
    let all : rest ≡ drop i bs = take_rest bs i in
    let some : 0 < length rest = rw (all, length-drop) (omega arith) in
    let behind : i + suc n ≡ i + n + 1 = omega arith in
    ap lines_of (sym all) ∙ first_line rest some ∙
    ap (λ m. take m rest ∷ lines_of (drop (suc m) rest)) (sym e) ∙
    ap (λ zs. take n rest ∷ lines_of (drop (suc n) zs)) all ∙
    ap (λ zs. take n rest ∷ lines_of zs) (drop-drop (suc n) i bs ∙ ap (λ m. drop m bs) behind)

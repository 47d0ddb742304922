-- The width of a field that holds a term.
--     shl_is         what `1 << w` is in sixteen bits
--     width_found    the width is the first, of those tried from 0 on, that is enough, and else 8
--     width_le       the width is at most 8
--     width_enough   the width for n terms is enough for each of them
use Rattle.std.proofs.Common.{◌≡◌, ℕ, zero, suc, ◌+◌, ◌*◌, ◌%◌, ◌^◌, ◌<◌, ◌≤◌, leb, sym, subst, ⊎_elim, add-zero, arith}
use Rattle.std.specs.List.{find, range_with_len}
use Rattle.std.specs.Option.{unwrap_or}
use Rattle.std.proofs.lemmas.Nat.{one_shl}
use Rattle.std.proofs.lemmas.Bool.{cases_lt, cond-true, cond-false, le-leb, lt-leb}
use Rattle.plan.specs.Layout.{width_for, width_from}

pub shl_is : (w : ℕ) → w < 8 → (1 * 2 ^ w) % 2 ^ 16 ≡ 2 ^ w
shl_is w h = one_shl w 16 (omega arith)

-- `more` widths are left to try, from w on
found_from : (more w n : ℕ) → w + more ≤ 8 → unwrap_or (find (λ k. leb n ((1 * 2 ^ k) % 2 ^ 16)) (range_with_len w more)) (w + more) ≡ width_from more w n
unfolding width_from
found_from zero w n h = add-zero w
found_from (suc more) w n h =
    let e : w + suc more ≡ w + 1 + more = omega arith in
    rw (shl_is w (omega arith)) (⊎_elim
    (λ less. rw (lt-leb n (2 ^ w) less) (rw e (found_from more (w + 1) n (omega arith))))
    (λ le. rw (le-leb n (2 ^ w) le))
    (cases_lt (2 ^ w) n))

pub width_found : (n : ℕ) → unwrap_or (find (λ k. leb n ((1 * 2 ^ k) % 2 ^ 16)) (range_with_len 0 8)) 8 ≡ width_for n
unfolding width_for
width_found n = found_from 8 0 n (omega arith)

le_from : (more w n : ℕ) → width_from more w n ≤ w + more
unfolding width_from
le_from zero w n = omega arith
le_from (suc more) w n =
    ⊎_elim
    (λ less. rw (lt-leb n (2 ^ w) less) (omega (arith, le_from more (w + 1) n)))
    (λ le. rw (le-leb n (2 ^ w) le) (omega arith))
    (cases_lt (2 ^ w) n)

pub width_le : (n : ℕ) → width_for n ≤ 8
unfolding width_for
width_le n = le_from 8 0 n

enough_from : (more w n : ℕ) → n ≤ 2 ^ (w + more) → n ≤ 2 ^ width_from more w n
unfolding width_from
enough_from zero w n h = let e : w + 0 ≡ w = omega arith in subst (λ k. n ≤ 2 ^ k) e h
enough_from (suc more) w n h =
    let e : w + suc more ≡ w + 1 + more = omega arith in
    ⊎_elim
    (λ less. subst (λ k. n ≤ 2 ^ k) (sym (cond-false (leb n (2 ^ w)) w (width_from more (w + 1) n) (lt-leb n (2 ^ w) less))) (enough_from more (w + 1) n (subst (λ k. n ≤ 2 ^ k) e h)))
    (λ le. subst (λ k. n ≤ 2 ^ k) (sym (cond-true (leb n (2 ^ w)) w (width_from more (w + 1) n) (le-leb n (2 ^ w) le))) le)
    (cases_lt (2 ^ w) n)

pub width_enough : (n : ℕ) → n ≤ 256 → n ≤ 2 ^ width_for n
unfolding width_for
width_enough n h = enough_from 8 0 n h

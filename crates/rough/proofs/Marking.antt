-- Sets of links and pairs that an array marks.
--     held_more     a link is marked
--     held_top      the top link of a leg is marked
--     top_stands    a leg's top link, which stands first on it, is below 256
--     held_less     a pair is no longer marked
--     held_blank    a fresh array marks nothing
use Rattle.std.proofs.Common.{◌≡◌, ℕ, ◌<◌, Bool, true, false, not, ◌&&◌, ◌||◌, eqb, List, [], ◌∷◌, length, set, replicate, Some, None, sym, ap, ◌∙◌, ⊎_elim, arith}
use mathlib.Core.Bool.{and-true, or-false, or-true}
use mathlib.Core.Path.{fun_ext}
use Rattle.std.specs.List.{slice_get}
use Rattle.std.proofs.lemmas.List.{get_or_past, get_or-replicate, get_or-set_other, get_or-set_same, length-replicate}
use Rattle.std.proofs.lemmas.Bool.{and_right, cases_eq, cases_lt, cond-true, eq-eqb, ne_eqb, not_from_false, not_from_true}
use Rattle.cuts.specs.Links.{less, none, one, union}
use Rattle.book.specs.Meaning.{Lawful, Meaning, leg_of, link_at}
use Rattle.book.specs.declared.leg.Leg.{Leg}
use Rattle.book.proofs.Limits.{live_below}
use Rattle.rough.specs.Arrays.{held}
use Rattle.rough.specs.Run.{top}

module _ (xs : List Bool) (l : ℕ) (lt : l < length xs) where
  held_more : held (set xs l true) ≡ union (held xs) (one l)
  held_more = fun_ext (λ x.
      ⊎_elim
      (λ is. ap (held (set xs l true)) is ∙ get_or-set_same xs l true false lt ∙ sym (ap (λ t. held xs x || t) (eq-eqb x l is) ∙ or-true (held xs x)))
      (λ ne. get_or-set_other xs l x true false ne ∙ sym (ap (λ t. held xs x || t) (ne_eqb x l ne) ∙ or-false (held xs x)))
      (cases_eq x l))

  pub held_less : held (set xs l false) ≡ less (held xs) l
  held_less = fun_ext (λ x.
      ⊎_elim
      (λ is. ap (held (set xs l false)) is ∙ get_or-set_same xs l false false lt ∙ sym (and_right (held xs x) (not (eqb x l)) (not_from_true (eqb x l) (eq-eqb x l is))))
      (λ ne. get_or-set_other xs l x false false ne ∙ sym (ap (λ t. held xs x && t) (not_from_false (eqb x l) (ne_eqb x l ne)) ∙ and-true (held xs x)))
      (cases_eq x l))

  pub held_top : (ls : List ℕ) → slice_get ls 0 ≡ Some l → held (set xs l true) ≡ union (held xs) (top ls)
  held_top [] e = let z : ◌≡◌ {A = ℕ} 0 1 = cc in absurd (omega arith)
  held_top (y ∷ ys) e = let s : l ≡ y = cc in held_more ∙ ap (λ k. union (held xs) (one k)) s

pub held_blank : (n : ℕ) → held (replicate n false) ≡ none
held_blank n = fun_ext (λ x.
    ⊎_elim
    (λ lt. get_or-replicate n x false false lt)
    (λ le. let e = length-replicate n false in get_or_past (replicate n false) x false (omega arith))
    (cases_lt x n))

pub top_stands :
    (m : Meaning) → Lawful m → (s : Leg) (p l : ℕ) → m.opened p ≡ true → Some l ≡ link_at m s p 0 →
    (slice_get (leg_of m s p) 0 ≡ Some l) × (l < 256)
top_stands m law s p l opened is =
    let at : slice_get (leg_of m s p) 0 ≡ Some l = sym (cond-true (m.opened p) (slice_get (leg_of m s p) 0) None opened) ∙ sym is in
    (at, live_below m law l (law.live_legs s p 0 l opened at))

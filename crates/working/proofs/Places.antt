-- The elements of a list, as a chain of iterators asks for them place by place.
--     YieldsList-from_places    a closure that answers what stands at each place, as long as there is something
use Rattle.std.proofs.Common.{◌≡◌, ℕ, ◌+◌, ◌≤◌, List, ◌∷◌, length, drop, Some, None, Option, sym, ap, subst, ◌∙◌, ⊎_elim, arith}
use Rattle.std.proofs.iter.Yields.{nat_range_steps}
use Rattle.std.proofs.lemmas.Iterator.{YieldsList}
use Rattle.std.proofs.lemmas.Iterator.Splits.{YieldsList-from_shown_while}
use Rattle.std.proofs.lemmas.List.{drop_all, drop_more}
use Rattle.std.proofs.lemmas.Option.{get_or_from_slice_get, slice_get_cases, slice_get_within}
use Rattle.std.specs.Fn.{Called}
use Rattle.std.specs.Iterator.Adapters.{map_while_callee, map_while_source, map_while_steps}
use Rattle.std.specs.List.{slice_get}
use Rattle.std.specs.Option.{MatchOption}
use Rattle.std.specs.declared.iter.MapWhile.{MapWhile}
use Rattle.std.specs.declared.ops.Range.{Range}
use denote.Param.Members.{Mut}

past : (xs : List ℕ) (k : ℕ) → slice_get xs k ≡ None → length xs ≤ k
past xs k e = ⊎_elim (λ (x, lt, is, at). let z : ◌≡◌ {A = ℕ} 0 1 = cc in absurd (omega arith)) (λ h. h.0) (slice_get_cases xs k).1

from_here : (xs : List ℕ) (k x : ℕ) → slice_get xs k ≡ Some x → drop k xs ≡ x ∷ drop (k + 1) xs
from_here xs k x e = drop_more xs k 0 (slice_get_within xs k x e) ∙ ap (λ y. y ∷ drop (k + 1) xs) (get_or_from_slice_get xs k x 0 e)

module _ {F : Type 0} (g : Mut F (ℕ × Unit {0}) (Option ℕ)) (f : F) (n : ℕ) (xs : List ℕ) where
  abbrev pub Answers : Type 0
  Answers = (k : ℕ) (r : Option ℕ) (q : F) → Called g f (k, tt) r q → (q ≡ f) × (r ≡ slice_get xs k)

  abbrev Asking : MapWhile (Range ℕ) F → Type 0
  Asking s = (map_while_callee s ≡ f) × ((map_while_source s).end ≡ n)

  abbrev left : MapWhile (Range ℕ) F → List ℕ
  left s = drop (map_while_source s).start xs

  module _ (short : length xs ≤ n) (answers : Answers) (s t : MapWhile (Range ℕ) F) (asking : Asking s) where
    none_left :
        (o : Option ℕ) → nat_range_steps (map_while_source s) o (map_while_source t) →
        MatchOption o ((◌≡◌ {A = Option ℕ} None None) × (map_while_callee t ≡ map_while_callee s)) (λ x. Called g (map_while_callee s) (x, tt) None (map_while_callee t)) →
        length (left s) ≡ 0
    none_left None step called = ap length (drop_all (map_while_source s).start xs (omega (arith, short, asking.1, step.1.0)))
    none_left (Some k) step called =
        let is = answers k None (map_while_callee t) (subst (λ h. Called g h (k, tt) None (map_while_callee t)) asking.0 called) in
        ap length (drop_all (map_while_source s).start xs (omega (arith, past xs k (sym is.1), step.1.1)))

    some_left :
        (y : ℕ) (o : Option ℕ) → nat_range_steps (map_while_source s) o (map_while_source t) →
        MatchOption o ((Some y ≡ None) × (map_while_callee t ≡ map_while_callee s)) (λ x. Called g (map_while_callee s) (x, tt) (Some y) (map_while_callee t)) →
        Asking t × (left s ≡ y ∷ left t)
    some_left y None step called = let z : ◌≡◌ {A = ℕ} 0 1 = cc in absurd (omega arith)
    some_left y (Some k) step called =
        let is = answers k (Some y) (map_while_callee t) (subst (λ h. Called g h (k, tt) (Some y) (map_while_callee t)) asking.0 called) in
        let at : slice_get xs (map_while_source s).start ≡ Some y = ap (slice_get xs) (sym step.1.1) ∙ sym is.1 in
        ((is.0, step.0 ∙ asking.1), from_here xs (map_while_source s).start y at ∙ ap (λ i. y ∷ drop i xs) (sym step.1.2))

  pub YieldsList-from_places :
      {s : MapWhile (Range ℕ) F} → map_while_source s ≡ record { start = 0; end = n } → map_while_callee s ≡ f → length xs ≤ n → Answers →
      YieldsList (map_while_steps nat_range_steps g) (λ x. x) s xs
  YieldsList-from_places {s} from is short answers =
      subst (λ ys. YieldsList (map_while_steps nat_range_steps g) (λ x. x) s ys) (ap (λ r. drop r.start xs) from) (
      YieldsList-from_shown_while (map_while_steps nat_range_steps g) (λ x. x) left Asking
      (λ u t asking step. none_left short answers u t asking step.0 step.1 step.2)
      (λ u x t asking step. some_left short answers u t asking x step.0 step.1 step.2)
      s (is, ap (λ r. r.end) from))

-- What the marks of a tally leave of a book, in the words of the theory of cuts.
--     rest_remains     the rest is what remains of the book's instance under the marks
--     marks_remain     more marks leave what remains of the rest
--     marked_but       a marked link, and no other, is not live any more
--     dropped_but      a dropped pair, and no other, is not open any more
--     dropped_off      a cut drops the pairs whose roads pass the link, and no others
use Rattle.std.proofs.Common.{◌≡◌, ℕ, ◌<◌, ◌≤◌, Bool, true, false, not, ◌&&◌, List, length, get_or, set, sym, refl, ap, ◌∙◌, ⊎_elim}
use mathlib.Core.Bool.{and-false, and-true}
use Rattle.std.proofs.lemmas.List.{get_or-set_other, get_or-set_same}
use Rattle.std.proofs.lemmas.Bool.{cases_Bool, cases_eq, eq-eqb, ne_eqb}
use Rattle.cuts.specs.After.{but_for, off_road, remain}
use Rattle.cuts.specs.Instances.{Instance, Sound}
use Rattle.cuts.proofs.Same.{remain_remain, same_instance}
use Rattle.book.specs.Meaning.{Meaning}
use Rattle.book.specs.Posed.{posed}
use Rattle.working.proofs.Drops.{dropped_here, dropped_not}
use Rattle.working.specs.Lawful.{rest_on}
use Rattle.working.specs.Marking.{drop_where}
use Rattle.working.specs.Rest.{is_unmarked, rest, undropped, unmarked}
use Rattle.working.specs.declared.tally.LinkMark.{LinkMark}
use Rattle.working.specs.declared.tally.LinkMark.TheVariants.{Unmarked}
use Rattle.working.specs.declared.tally.Tally.{Tally}

pub rest_remains : (m : Meaning) (t : Tally) → posed (rest m t) ≡ remain (posed m) (unmarked t) (undropped t)
rest_remains m t = same_instance (posed (rest m t)) (remain (posed m) (unmarked t) (undropped t)) refl refl (λ l. refl) (λ p. refl) (rest_on m t)

pub marks_remain : (m : Meaning) (t u : Tally) (f g : ℕ → Bool) → ((x : ℕ) → unmarked u x ≡ (unmarked t x && f x)) → ((p : ℕ) → undropped u p ≡ (undropped t p && g p)) → posed (rest m u) ≡ remain (posed (rest m t)) f g
marks_remain m t u f g links pairs =
    rest_remains m u ∙
    (λ z. remain (posed m) (λ x. links x z) (λ p. pairs p z)) ∙
    sym (remain_remain (posed m) (unmarked t) (undropped t) f g) ∙
    ap (λ i. remain i f g) (sym (rest_remains m t))

-- a mark that is not free takes the link, and no other
pub marked_but : (xs : List LinkMark) (k : LinkMark) (l x : ℕ) → is_unmarked k ≡ false → l < length xs → is_unmarked (get_or (set xs l k) x Unmarked) ≡ (is_unmarked (get_or xs x Unmarked) && but_for l x)
marked_but xs k l x free h =
    ⊎_elim
    (λ e. ap (λ y. is_unmarked (get_or (set xs l k) y Unmarked)) e ∙ ap is_unmarked (get_or-set_same xs l k Unmarked h) ∙ free ∙
    sym (ap (λ b. is_unmarked (get_or xs x Unmarked) && not b) (eq-eqb x l e) ∙ and-false (is_unmarked (get_or xs x Unmarked))))
    (λ ne. ap is_unmarked (get_or-set_other xs l x k Unmarked ne) ∙
    sym (ap (λ b. is_unmarked (get_or xs x Unmarked) && not b) (ne_eqb x l ne) ∙ and-true (is_unmarked (get_or xs x Unmarked))))
    (cases_eq x l)

pub dropped_but : (ds : List Bool) (r p : ℕ) → r < length ds → not (get_or (set ds r true) p false) ≡ (not (get_or ds p false) && but_for r p)
dropped_but ds r p h =
    ⊎_elim
    (λ e. ap (λ y. not (get_or (set ds r true) y false)) e ∙ ap not (get_or-set_same ds r true false h) ∙
    sym (ap (λ b. not (get_or ds p false) && not b) (eq-eqb p r e) ∙ and-false (not (get_or ds p false))))
    (λ ne. ap not (get_or-set_other ds r p true false ne) ∙
    sym (ap (λ b. not (get_or ds p false) && not b) (ne_eqb p r ne) ∙ and-true (not (get_or ds p false))))
    (cases_eq p r)

-- a cut drops the pairs whose roads pass the link, and no others
pub dropped_off : (i : Instance) → Sound i → (l : ℕ) (ds : List Bool) (p : ℕ) → i.pairs ≤ length ds → not (get_or (drop_where (i.on l) i.pairs ds) p false) ≡ (not (get_or ds p false) && off_road i l p)
dropped_off i sound l ds p fits =
    let open' = not (get_or ds p false) in
    ⊎_elim
    (λ e. ap not (dropped_here (i.on l) i.pairs ds p fits (sound.numbered p (sound.on_open l p e)) e) ∙ sym (ap (λ b. open' && not b) e ∙ and-false open'))
    (λ e. ap not (dropped_not (i.on l) i.pairs ds p e) ∙ sym (ap (λ b. open' && not b) e ∙ and-true open'))
    (cases_Bool (i.on l p))

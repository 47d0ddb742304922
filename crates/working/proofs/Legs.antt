-- The roads and legs of a rest, as a working finds them in its book.
--     rest_road        a road of the rest, where link and pair are of the rest
--     rest_link        a link of a leg of the rest is one that is kept of the book's leg
--     book_link        a link of a leg of the book
use Rattle.std.proofs.Common.{◌≡◌, ℕ, Bool, true, ◌&&◌, None, filter, sym, ap, ◌∙◌}
use mathlib.Core.Bool.{and-true}
use Rattle.std.specs.List.{slice_get}
use Rattle.std.proofs.lemmas.Bool.{and_parts, cond-true}
use Rattle.book.specs.Meaning.{Meaning, leg_of, link_at, on_road}
use Rattle.book.specs.declared.leg.Leg.{Leg}
use Rattle.working.specs.Lawful.{leg_rest, rest_on}
use Rattle.working.specs.Rest.{rest, undropped, unmarked}
use Rattle.working.specs.declared.tally.Tally.{Tally}

pub rest_road : (m : Meaning) (t : Tally) (l p : ℕ) (r : Bool) → r ≡ on_road m l p → true ≡ (rest m t).live l → true ≡ (rest m t).opened p → r ≡ on_road (rest m t) l p
rest_road m t l p r e live open' =
    let u = (and_parts (m.live l) (unmarked t l) (sym live)).1 in
    let d = (and_parts (m.opened p) (undropped t p) (sym open')).1 in
    e ∙ sym (rest_on m t l p ∙ ap (λ b. on_road m l p && (b && undropped t p)) u ∙ ap (λ b. on_road m l p && b) d ∙ and-true (on_road m l p))

module _ (m : Meaning) (t : Tally) (s : Leg) (p : ℕ) (open' : true ≡ (rest m t).opened p) where
  pub open_in_book : m.opened p ≡ true
  open_in_book = (and_parts (m.opened p) (undropped t p) (sym open')).0

  pub rest_link : (k : ℕ) → link_at (rest m t) s p k ≡ slice_get (filter (unmarked t) (leg_of m s p)) k
  rest_link k = cond-true ((rest m t).opened p) (slice_get (leg_of (rest m t) s p) k) None (sym open') ∙ ap (λ xs. slice_get xs k) (leg_rest m t s p)

  pub book_link : (k : ℕ) → link_at m s p k ≡ slice_get (leg_of m s p) k
  book_link k = cond-true (m.opened p) (slice_get (leg_of m s p) k) None open_in_book

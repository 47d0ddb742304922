-- What each kind of mark leaves of a rest.
--     weld_leaves, cut_leaves, drop_leaves    the instance that the theory of cuts says, and arrays of their size
use Rattle.std.proofs.Common.{◌≡◌, ℕ, ◌<◌, ◌≤◌, true, length, sym, refl, ◌∙◌, arith}
use mathlib.Core.Bool.{and-true}
use Rattle.std.proofs.lemmas.List.{length-set}
use Rattle.cuts.specs.After.{but_for, every, off_road}
use Rattle.cuts.specs.After as theory
use Rattle.cuts.specs.Instances.{Sound}
use Rattle.book.specs.Meaning.{Lawful, Meaning}
use Rattle.book.specs.Posed.{lawful_sound, posed}
use Rattle.book.proofs.Limits.{live_below, open_below}
use Rattle.working.specs.Lawful.{rest_lawful}
use Rattle.working.specs.Marking.{cut_link, drop_pair, weld_link}
use Rattle.working.specs.Rest.{rest, undropped, unmarked}
use Rattle.working.specs.declared.tally.LinkMark.TheVariants.{Cut, Welded}
use Rattle.working.specs.declared.tally.Tally.{Tally}
use Rattle.runs.specs.Judged.{Whole}
use Rattle.working.proofs.Drops.{length_drops}
use Rattle.runs.proofs.Marks.{dropped_but, dropped_off, marked_but, marks_remain}

module _ (m : Meaning) (law : Lawful m) (t : Tally) (whole : Whole t) where
  pub sound : Sound (posed (rest m t))
  sound = lawful_sound (rest m t) (rest_lawful m t law)

  link_fits : (l : ℕ) → (rest m t).live l ≡ true → l < length t.links
  link_fits l e = omega (arith, live_below (rest m t) (rest_lawful m t law) l e, whole.links)

  pair_fits : (p : ℕ) → (rest m t).opened p ≡ true → p < length t.dropped
  pair_fits p e = omega (arith, open_below (rest m t) (rest_lawful m t law) p e, whole.pairs)

  pub weld_leaves : (l : ℕ) → (rest m t).live l ≡ true → (posed (rest m (weld_link l t)) ≡ theory.weld_link (posed (rest m t)) l) × Whole (weld_link l t)
  weld_leaves l e = (
    marks_remain m t (weld_link l t) (but_for l) every
        (λ x. marked_but t.links Welded l x refl (link_fits l e))
        (λ p. sym (and-true (undropped t p))),
    record { links = length-set t.links l Welded ∙ whole.links; pairs = whole.pairs },
  )

  pub cut_leaves : (l : ℕ) → (rest m t).live l ≡ true → (posed (rest m (cut_link (posed (rest m t)) l t)) ≡ theory.cut_link (posed (rest m t)) l) × Whole (cut_link (posed (rest m t)) l t)
  cut_leaves l e =
      let i = posed (rest m t) in
      let fits : i.pairs ≤ length t.dropped = omega (arith, law.few_pairs, whole.pairs) in (
        marks_remain m t (cut_link i l t) (but_for l) (off_road i l)
            (λ x. marked_but t.links Cut l x refl (link_fits l e))
            (λ p. dropped_off i sound l t.dropped p fits),
        record { links = length-set t.links l Cut ∙ whole.links; pairs = length_drops (i.on l) i.pairs t.dropped ∙ whole.pairs },
      )

  pub drop_leaves : (r : ℕ) → (rest m t).opened r ≡ true → (posed (rest m (drop_pair r t)) ≡ theory.drop_pair (posed (rest m t)) r) × Whole (drop_pair r t)
  drop_leaves r e = (
    marks_remain m t (drop_pair r t) every (but_for r)
        (λ x. sym (and-true (unmarked t x)))
        (λ p. dropped_but t.dropped r p (pair_fits r e)),
    record { links = whole.links; pairs = length-set t.dropped r true ∙ whole.pairs },
  )

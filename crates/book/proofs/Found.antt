-- What climbing finds is what the plan tells.
--     on_told       a link that lies above one of a pair's terms alone is on its road
--     first_told    the link so far down the way to the first term is the one at that place of the first leg
--     second_told   the same of the second
use Rattle.std.proofs.Common.{◌≡◌, ℕ, ◌+◌, ◌-◌, ◌^◌, ◌≤◌, min, Bool, true, not, ◌&&◌, ◌||◌, ltb, drop, Option, sym, ap, ◌∙◌, arith}
use mathlib.Core.Bool.{beq}
use Rattle.std.specs.List.{slice_get}
use Rattle.std.proofs.lemmas.Bool.{cond-true}
use Rattle.plan.specs.Plans.{broader_of, ends_of}
use Rattle.plan.specs.Tree.{among, rank, way}
use Rattle.plan.specs.declared.shape.Plan.{Plan}
use Rattle.plan.proofs.Climbs.{plan_falls}
use Rattle.plan.proofs.Roads.{leg_at, rank_comm, road_is}
use Rattle.book.specs.Meaning.{link_at, on_road}
use Rattle.book.specs.Told.{ends_in_lem, is_link, told}
use Rattle.book.specs.declared.leg.Leg.TheVariants.{First, Second}

module _ (p : Plan) (q a b : ℕ) (open' : ltb q p.pairs ≡ true) (ea : a ≡ (ends_of p q).0) (eb : b ≡ (ends_of p q).1) where
  pub on_told : (l : ℕ) (x y : Bool) → is_link p l ≡ true → x ≡ among l (way (broader_of p) a) → y ≡ among l (way (broader_of p) b) → not (beq x y) ≡ on_road (told p) l q
  on_told l x y live e f =
      let up = broader_of p in
      let m = told p in
      let on = among l (m.first q) || among l (m.second q) in
      let e' : x ≡ among l (way up (ends_of p q).0) = e ∙ ap (λ t. among l (way up t)) ea in
      let f' : y ≡ among l (way up (ends_of p q).1) = f ∙ ap (λ t. among l (way up t)) eb in
      ap (λ t. not (beq t y)) e' ∙ ap (λ t. not (beq (among l (way up (ends_of p q).0)) t)) f' ∙
      road_is up (plan_falls p) (ends_of p q).0 (ends_of p q).1 l ∙
      sym (ap (λ t. t && (m.opened q && on)) live ∙ ap (λ t. t && on) open')

  pub first_told : (k r n : ℕ) (o : Option ℕ) → r ≡ rank (broader_of p) a b → n ≡ min (r + k) (2 ^ 16 - 1) → o ≡ slice_get (way (broader_of p) a) n → o ≡ link_at (told p) First q k
  first_told k r n o er en eo =
      let up = broader_of p in
      let small : a ≤ 2 ^ 16 - 1 = omega (arith, ea, (ends_in_lem p q open').0, p.counted.1) in
      let er' : r ≡ rank up (ends_of p q).0 (ends_of p q).1 = er ∙ ap (λ t. rank up t b) ea ∙ ap (rank up (ends_of p q).0) eb in
      eo ∙ ap (slice_get (way up a)) en ∙ leg_at up (plan_falls p) a r k (2 ^ 16 - 1) small ∙
      ap (λ t. slice_get (drop r (way up t)) k) ea ∙ ap (λ t. slice_get (drop t (way up (ends_of p q).0)) k) er' ∙ sym (cond-true _ _ _ open')

  pub second_told : (k r n : ℕ) (o : Option ℕ) → r ≡ rank (broader_of p) a b → n ≡ min (r + k) (2 ^ 16 - 1) → o ≡ slice_get (way (broader_of p) b) n → o ≡ link_at (told p) Second q k
  second_told k r n o er en eo =
      let up = broader_of p in
      let small : b ≤ 2 ^ 16 - 1 = omega (arith, eb, (ends_in_lem p q open').1, p.counted.1) in
      let er' : r ≡ rank up (ends_of p q).1 (ends_of p q).0 = er ∙ ap (λ t. rank up t b) ea ∙ ap (rank up (ends_of p q).0) eb ∙ rank_comm up (plan_falls p) (ends_of p q).0 (ends_of p q).1 in
      eo ∙ ap (slice_get (way up b)) en ∙ leg_at up (plan_falls p) b r k (2 ^ 16 - 1) small ∙
      ap (λ t. slice_get (drop r (way up t)) k) eb ∙ ap (λ t. slice_get (drop t (way up (ends_of p q).1)) k) er' ∙ sym (cond-true _ _ _ open')

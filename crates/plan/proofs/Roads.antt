-- The roads of a tree.
--     leg_above                    a link on the leg to a lies above a and not above b
--     above_leg                    and one that does is on that leg
--     rank_comm                    the rank does not depend on which term comes first
--     rank_climb                   the rank stays where the larger term gives way to its broader term
--     rank_self                    a term turns at itself
--     rank_le                      and no pair turns deeper than either of its terms
--     leg_is, road_is              which links are on a leg and on a road, by what lies above what
--     leg_at                       what stands at a place of a leg
--     roads_join                   the tree law, for ways
--     leg_different, leg_bounds    which links stand on a leg
use Rattle.std.proofs.Common.{◌≡◌, ℕ, ◌+◌, ◌-◌, ◌<◌, ◌≤◌, min, Bool, true, false, not, ◌&&◌, ◌||◌, length, drop, Some, sym, refl, ap, ◌∙◌, ⊎_elim, arith}
use mathlib.Core.Bool.{beq}
use Rattle.std.specs.List.{slice_get}
use Rattle.std.proofs.lemmas.Option.{slice_get_past}
use Rattle.std.proofs.lemmas.Bool.{and_from, and_parts, both_ways, cases_Bool, cases_lt, not_from_false, not-true}
use Rattle.plan.specs.Tree.{among, leg, rank, shared, way, Falls}
use Rattle.plan.proofs.Members.{among_at, at_among, at_drop}
use Rattle.plan.proofs.Shared.{shared_comm, shared_le, shared_push, shared_reaches, shared_same, shared_self}
use Rattle.plan.proofs.Ways.{same_front, same_place, way_bounds, way_length, way_more}

-- two tests that are true together
pub same_tests : (x y : Bool) → (x ≡ true → y ≡ true) → (y ≡ true → x ≡ true) → x ≡ y
same_tests true true f g = refl
same_tests true false f g = sym (f refl)
same_tests false true f g = g refl
same_tests false false f g = refl

module _ (up : ℕ → ℕ) (falls : Falls up) (a b : ℕ) where
  -- a link on both ways lies above the turning term
  both_above : (j k x : ℕ) → slice_get (way up a) j ≡ Some x → slice_get (way up b) k ≡ Some x → j < rank up a b
  both_above j k x e f = shared_reaches (way up a) (way up b) j x e (λ i h. same_front up falls a b j k x i e f h)

  pub leg_above : (x : ℕ) → among x (leg up a b) ≡ true → (among x (way up a) ≡ true) × (among x (way up b) ≡ false)
  leg_above x e =
      let i = among_at x (leg up a b) e in
      let r = rank up a b in
      let p : slice_get (way up a) (r + i.0) ≡ Some x = sym (at_drop r (way up a) i.0) ∙ i.1 in (
        at_among x (way up a) (r + i.0) p,
        ⊎_elim
            (λ h. let k = among_at x (way up b) h in absurd (omega (arith, both_above (r + i.0) k.0 x p k.1)))
            (λ h. h)
            (cases_Bool (among x (way up b))),
      )

  pub above_leg : (x : ℕ) → among x (way up a) ≡ true → among x (way up b) ≡ false → among x (leg up a b) ≡ true
  above_leg x e f =
      let k = among_at x (way up a) e in
      let r = rank up a b in
      ⊎_elim
      (λ h. absurd (both_ways (among x (way up b)) f (at_among x (way up b) k.0 (sym (shared_same (way up a) (way up b) k.0 h) ∙ k.1))))
      (λ h. let d : r + (k.0 - r) ≡ k.0 = omega arith in
      at_among x (leg up a b) (k.0 - r) (at_drop r (way up a) (k.0 - r) ∙ ap (slice_get (way up a)) d ∙ k.1))
      (cases_lt k.0 r)

  pub rank_comm : rank up a b ≡ rank up b a
  rank_comm = shared_comm (way up a) (way up b)

  pub rank_climb : a < b → rank up a b ≡ rank up a (up b)
  rank_climb h =
      ap (shared (way up a)) (way_more up falls b (omega arith)) ∙
      shared_push (way up a) (way up (up b)) b (λ k e. omega (arith, (way_bounds up falls a k b e).1))

pub rank_self : (up : ℕ → ℕ) (a : ℕ) → rank up a a ≡ length (way up a)
rank_self up a = shared_self (way up a)

-- where a way down from depth s holds a link that another does from a depth not greater, the other holds each link above it too
pub roads_join : (up : ℕ → ℕ) → Falls up → (a c r s l x i j : ℕ) → among l (drop r (way up a)) ≡ true → r ≤ s → slice_get (drop s (way up c)) j ≡ Some l → slice_get (drop s (way up c)) i ≡ Some x → i ≤ j → among x (drop r (way up a)) ≡ true
roads_join up falls a c r s l x i j on low at above order =
    let k = among_at l (drop r (way up a)) on in
    let la : slice_get (way up a) (r + k.0) ≡ Some l = sym (at_drop r (way up a) k.0) ∙ k.1 in
    let lc : slice_get (way up c) (s + j) ≡ Some l = sym (at_drop s (way up c) j) ∙ at in
    let xc : slice_get (way up c) (s + i) ≡ Some x = sym (at_drop s (way up c) i) ∙ above in
    let xa : slice_get (way up a) (s + i) ≡ Some x = sym (same_front up falls c a (s + j) (r + k.0) l (s + i) lc la (omega arith)) ∙ xc in
    let d : r + (s + i - r) ≡ s + i = omega arith in
    at_among x (drop r (way up a)) (s + i - r) (at_drop r (way up a) (s + i - r) ∙ ap (slice_get (way up a)) d ∙ xa)

-- no link stands twice on a leg
pub leg_different : (up : ℕ → ℕ) → Falls up → (a r i j x : ℕ) → slice_get (drop r (way up a)) i ≡ Some x → slice_get (drop r (way up a)) j ≡ Some x → i ≡ j
leg_different up falls a r i j x e f =
    let p = same_place up falls a a (r + i) (r + j) x (sym (at_drop r (way up a) i) ∙ e) (sym (at_drop r (way up a) j) ∙ f) in
    omega arith

-- the links on a leg to a are 1 to a
pub leg_bounds : (up : ℕ → ℕ) → Falls up → (a r k x : ℕ) → slice_get (drop r (way up a)) k ≡ Some x → (0 < x) × (x ≤ a)
leg_bounds up falls a r k x e = way_bounds up falls a (r + k) x (sym (at_drop r (way up a) k) ∙ e)

-- no turning term lies deeper than either term
pub rank_le : (up : ℕ → ℕ) → Falls up → (a b : ℕ) → rank up a b ≤ a
rank_le up falls a b = let h = shared_le (way up a) (way up b) in omega (arith, way_length up falls a)

parted : (x y : Bool) → not (beq x y) ≡ ((x && not y) || (y && not x))
parted true true = refl
parted true false = refl
parted false true = refl
parted false false = refl

-- a link is on the leg to a exactly when it lies above a and not above b
pub leg_is : (up : ℕ → ℕ) → Falls up → (a b x : ℕ) → among x (leg up a b) ≡ (among x (way up a) && not (among x (way up b)))
leg_is up falls a b x =
    let ina = among x (way up a) in
    let inb = among x (way up b) in
    same_tests (among x (leg up a b)) (ina && not inb)
    (λ e. let h = leg_above up falls a b x e in and_from ina (not inb) h.0 (not_from_false inb h.1))
    (λ e. let h = and_parts ina (not inb) e in above_leg up falls a b x h.0 (not-true inb h.1))

-- a link is on the road between two terms exactly when it lies above one of them alone
pub road_is : (up : ℕ → ℕ) → Falls up → (a b x : ℕ) → not (beq (among x (way up a)) (among x (way up b))) ≡ (among x (leg up a b) || among x (leg up b a))
road_is up falls a b x =
    parted (among x (way up a)) (among x (way up b)) ∙
    ap (λ t. t || (among x (way up b) && not (among x (way up a)))) (sym (leg_is up falls a b x)) ∙
    ap (λ t. among x (leg up a b) || t) (sym (leg_is up falls b a x))

-- a place so far down that it is not counted holds no link
pub leg_at : (up : ℕ → ℕ) → Falls up → (t r k most : ℕ) → t ≤ most → slice_get (way up t) (min (r + k) most) ≡ slice_get (drop r (way up t)) k
leg_at up falls t r k most small =
    ⊎_elim
    (λ h. (let e : min (r + k) most ≡ r + k = omega arith in ap (slice_get (way up t)) e) ∙ sym (at_drop r (way up t) k))
    (λ h. slice_get_past (way up t) (min (r + k) most) (omega (arith, way_length up falls t)) ∙ sym (at_drop r (way up t) k ∙ slice_get_past (way up t) (r + k) (omega (arith, way_length up falls t))))
    (cases_lt (r + k) most)

-- The way to a term, for broader terms that fall.
--     climb            induction along broader terms
--     way_root         the way to term 0 has no link
--     way_more         the way to a term is that to its broader term, and its own link
--     way_bounds       the links on the way to t are 1 to t
--     way_front        the way to a link on the way to t is the front of that way, down to it
--     depth_at         so its place there says how many links lead to it
--     same_place       and it stands at that place on every way that holds it
--     same_front       and those ways are the same down to it
--     way_length       no way to t has more than t links
use Rattle.std.proofs.Common.{◌≡◌, ℕ, zero, suc, ◌<◌, ◌≤◌, [], ◌∷◌, ◌++◌, length, take, Some, sym, refl, ap, ◌∙◌, subst, ⊎_elim, arith}
use Rattle.std.specs.List.{slice_get}
use Rattle.std.proofs.lemmas.List.{length-append, length-take-le, take_all, take-append-le}
use Rattle.std.proofs.lemmas.Bool.{cases_eq}
use Rattle.std.proofs.lemmas.Option.{slice_get_within}
use Rattle.plan.specs.Tree.{Falls, way, way_within}
use Rattle.plan.proofs.Members.{at_push, at_take, none_of_nil}

module _ (up : ℕ → ℕ) (falls : Falls up) where
  climb_within : (P : ℕ → Type 0) → P 0 → ((t : ℕ) → 0 < t → P (up t) → P t) → (n t : ℕ) → t ≤ n → P t
  climb_within P root more zero t h = let e : 0 ≡ t = omega arith in subst P e root
  climb_within P root more (suc n) t h =
      ⊎_elim (λ e. subst P (sym e) root)
      (λ ne. let pos : 0 < t = omega (arith, ne) in more t pos (climb_within P root more n (up t) (omega (arith, falls t pos))))
      (cases_eq t 0)

  pub climb : (P : ℕ → Type 0) → P 0 → ((t : ℕ) → 0 < t → P (up t) → P t) → (t : ℕ) → P t
  climb P root more t = climb_within P root more t t (omega arith)

  -- more than enough is enough
  within_same : (n m t : ℕ) → t ≤ n → t ≤ m → way_within n up t ≡ way_within m up t
  unfolding way_within
  within_same zero zero t h k = refl
  within_same zero (suc m) zero h k = refl
  within_same zero (suc m) (suc t) h k = absurd (omega arith)
  within_same (suc n) zero zero h k = refl
  within_same (suc n) zero (suc t) h k = absurd (omega arith)
  within_same (suc n) (suc m) zero h k = refl
  within_same (suc n) (suc m) (suc t) h k =
      let less : up (suc t) < suc t = falls (suc t) (omega arith) in
      ap (λ xs. xs ++ (suc t ∷ [])) (within_same n m (up (suc t)) (omega arith) (omega arith))

  pub way_root : way up 0 ≡ []
  unfolding way way_within
  way_root = refl

  pub way_more : (t : ℕ) → 0 < t → way up t ≡ way up (up t) ++ (t ∷ [])
  unfolding way way_within
  way_more zero h = absurd (omega arith)
  way_more (suc t) h = let less : up (suc t) < suc t = falls (suc t) h in ap (λ xs. xs ++ (suc t ∷ [])) (within_same t (up (suc t)) (up (suc t)) (omega arith) (omega arith))

  pub way_bounds : (t k x : ℕ) → slice_get (way up t) k ≡ Some x → (0 < x) × (x ≤ t)
  way_bounds =
      climb (λ t. (k x : ℕ) → slice_get (way up t) k ≡ Some x → (0 < x) × (x ≤ t))
      (λ k x e. absurd (none_of_nil k x (rw way_root at e)))
      (λ t pos below k x e.
      ⊎_elim (λ h. let b = below k x h in (b.0, omega (arith, b.1, falls t pos))) (λ h. (omega (arith, h.1), omega (arith, h.1)))
      (at_push (way up (up t)) t k x (rw (way_more t pos) at e)))

  pub way_front : (t k x : ℕ) → slice_get (way up t) k ≡ Some x → way up x ≡ take (suc k) (way up t)
  way_front =
      climb (λ t. (k x : ℕ) → slice_get (way up t) k ≡ Some x → way up x ≡ take (suc k) (way up t))
      (λ k x e. absurd (none_of_nil k x (rw way_root at e)))
      (λ t pos below k x e.
      let w = way up (up t) in
      ⊎_elim
      (λ h. below k x h ∙ sym (ap (take (suc k)) (way_more t pos) ∙ take-append-le (suc k) w (t ∷ []) (slice_get_within w k x h)))
      (λ h. ap (way up) h.1 ∙ sym (take_all (suc k) (way up t) (rw (way_more t pos) (rw length-append (omega (arith, h.0))))))
      (at_push w t k x (rw (way_more t pos) at e)))

  -- the depth of a link is one more than its place on any way
  pub depth_at : (t k x : ℕ) → slice_get (way up t) k ≡ Some x → length (way up x) ≡ suc k
  depth_at t k x e = ap length (way_front t k x e) ∙ length-take-le (suc k) (way up t) (slice_get_within (way up t) k x e)

  -- a link stands at the same place on all ways that hold it, and the ways are the same down to it
  pub same_place : (s t j k x : ℕ) → slice_get (way up s) j ≡ Some x → slice_get (way up t) k ≡ Some x → j ≡ k
  same_place s t j k x e f = let p = depth_at s j x e in let q = depth_at t k x f in omega arith

  pub same_front : (s t j k x i : ℕ) → slice_get (way up s) j ≡ Some x → slice_get (way up t) k ≡ Some x → i ≤ j → slice_get (way up s) i ≡ slice_get (way up t) i
  same_front s t j k x i e f h =
      let q : j ≡ k = same_place s t j k x e f in
      let less : i < suc j = omega arith in
      let fronts : take (suc j) (way up s) ≡ take (suc k) (way up t) = sym (way_front s j x e) ∙ way_front t k x f in
      sym (at_take (suc j) (way up s) i less) ∙ ap (λ xs. slice_get xs i) fronts ∙ at_take (suc k) (way up t) i (omega arith)

  pub way_length : (t : ℕ) → length (way up t) ≤ t
  way_length =
      climb (λ t. length (way up t) ≤ t) (rw way_root (omega arith))
      (λ t pos h. rw (way_more t pos) (rw length-append (omega (arith, falls t pos))))

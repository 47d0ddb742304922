-- Where two ways part: at the lowest common ancestor.
--     over_le         a term that is over another has no larger number
--     over_same       two terms that are over each other are one
--     over_front      the way to a term that is over t is the front of the way to t
--     turn_some       there is a turning term, at the depth of the rank
--     turn_one        there is no other
--     turned          the ways part there
use Rattle.std.proofs.Common.{◌≡◌, ℕ, zero, suc, ◌+◌, ◌<◌, ◌≤◌, ◌⊎◌, [], ◌∷◌, ◌++◌, length, take, sym, refl, ap, ◌∙◌, subst, inl, inr, ⊎_elim, arith}
use Rattle.std.proofs.lemmas.List.{length-take, take_all, take-append-drop, take-append-le}
use Rattle.std.proofs.lemmas.Bool.{cases_order}
use Rattle.plan.specs.Plans.{broader_of}
use Rattle.plan.specs.Tree.{leg, rank, way}
use Rattle.plan.specs.Turning.{here, higher, Over, Turned, TurnsAt}
use Rattle.plan.specs.declared.shape.Plan.{Plan}
use Rattle.plan.proofs.Climbs.{plan_falls}
use Rattle.plan.proofs.Roads.{rank_climb, rank_comm, rank_self}
use Rattle.plan.proofs.Ways.{way_more}

module _ (p : Plan) where
  abbrev up : ℕ → ℕ
  up = broader_of p

  over_le : (c t : ℕ) → Over p c t → c ≤ t
  over_le c t here = omega arith
  over_le c t (higher pos rest) = let h : c ≤ up t = over_le c (up t) rest in omega (arith, plan_falls p t pos)

  pub over_same : (c d : ℕ) → Over p c d → Over p d c → c ≡ d
  over_same c d o q = omega (arith, over_le c d o, over_le d c q)

  -- what is over a term is the term, or is over its broader term
  over_cases : (c t : ℕ) → Over p c t → (c ≡ t) ⊎ Over p c (up t)
  over_cases c t here = inl refl
  over_cases c t (higher pos rest) = inr rest

  pub over_front : (c t : ℕ) → Over p c t → way up c ≡ take (length (way up c)) (way up t)
  over_front c t here = sym (take_all (length (way up c)) (way up c) (omega arith))
  over_front c t (higher pos rest) =
      let k = length (way up c) in
      let e : way up c ≡ take k (way up (up t)) = over_front c (up t) rest in
      let short : k ≤ length (way up (up t)) = omega (arith, ap length e, length-take k (way up (up t))) in
      e ∙ sym (take-append-le k (way up (up t)) (t ∷ []) short) ∙ ap (take k) (sym (way_more up (plan_falls p) t pos))

  abbrev Found : ℕ → ℕ → Type 0
  Found a b = (c : ℕ) × TurnsAt p a b c × (rank up a b ≡ length (way up c))

  swapped : (a b : ℕ) → Found a b → Found b a
  swapped a b (c, (l, r, each), depth) = (c, (r, l, λ d o q. each d q o), rank_comm up (plan_falls p) b a ∙ depth)

  -- the larger of two different terms gives way to its broader term
  climbed : (a b : ℕ) → a < b → Found a (up b) → Found a b
  climbed a b less (c, (l, r, each), depth) = (
    c,
    (
      l,
      higher (omega arith) r,
      λ d o q. ⊎_elim (λ e. absurd (omega (arith, e, over_le d a o))) (λ rest. each d o rest) (over_cases d b q),
    ),
    rank_climb up (plan_falls p) a b less ∙ depth,
  )

  turn_within : (n a b : ℕ) → a + b ≤ n → Found a b
  turn_within zero a b h = let e : a ≡ b = omega arith in subst (Found a) e (a, (here, here, λ d o _. o), rank_self up a)
  turn_within (suc n) a b h =
      ⊎_elim
      (λ e. subst (Found a) e (a, (here, here, λ d o _. o), rank_self up a))
      (⊎_elim
      (λ less. let falls : up b < b = plan_falls p b (omega arith) in climbed a b less (turn_within n a (up b) (omega arith)))
      (λ more. let falls : up a < a = plan_falls p a (omega arith) in swapped b a (climbed b a more (swapped (up a) b (turn_within n (up a) b (omega arith))))))
      (cases_order a b)

  pub turn_some : (a b : ℕ) → Found a b
  turn_some a b = turn_within (a + b) a b (omega arith)

  pub turn_one : (a b c d : ℕ) → TurnsAt p a b c → TurnsAt p a b d → c ≡ d
  turn_one a b c d s t = over_same c d (t.2 c s.0 s.1) (s.2 d t.0 t.1)

  -- below a term that is over it at the depth of the rank, a way goes on as the leg
  parts : (a b c : ℕ) → Over p c a → rank up a b ≡ length (way up c) → way up a ≡ way up c ++ leg up a b
  parts a b c o depth =
      sym (take-append-drop (rank up a b) (way up a)) ∙ ap (λ k. take k (way up a) ++ leg up a b) depth ∙ ap (λ xs. xs ++ leg up a b) (sym (over_front c a o))

  pub turned : (a b c : ℕ) → TurnsAt p a b c → Turned p a b c
  turned a b c t =
      let f = turn_some a b in
      let depth : rank up a b ≡ length (way up c) = f.2 ∙ ap (λ x. length (way up x)) (turn_one a b f.0 c f.1 t) in
      record {
        depth = depth;
        first = parts a b c t.0 depth;
        second = parts b a c t.1 (rank_comm up (plan_falls p) b a ∙ depth);
      }

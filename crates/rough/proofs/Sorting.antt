-- Numbers put in one by one, by a total order.
--     all_sorted, among_sorted    the list has just the numbers below n that f has
--     length_sorted               and so at most n
--     pairwise_sorted             each stands before all that come behind it
--     sorted_next                 the first under the order is its head, and what is left is sorted behind it
--     sorted_done                 where there is no first, nothing is left
--     sorted_only                 any list of just these numbers, each before those behind, is the sorted one
use Rattle.std.proofs.Common.{◌≡◌, ℕ, zero, suc, ◌<◌, ◌≤◌, Bool, true, false, cond, ◌||◌, eqb, List, [], ◌∷◌, length, Some, None, sym, refl, ap, ◌∙◌, subst, ⊎_elim, arith}
use Rattle.std.specs.List.{slice_get, AllByRecursion}
use Rattle.std.proofs.ByRecursion.{All-weaker}
use Rattle.std.proofs.lemmas.Bool.{both_ways, cases_Bool, cases_eq, cond_both, cond-false, cond-true, eq-eqb, eqb-true, or_cases, or_left, or_right}
use Rattle.cuts.specs.Links.{less}
use Rattle.cuts.specs.Rules.{Pairwise}
use Rattle.cuts.proofs.Counting.{less_from, less_in, less_other}
use Rattle.plan.specs.Tree.{among}
use Rattle.rough.proofs.Pairs.{all_both}
use Rattle.rough.specs.Order.{first_of, insert, nearer, sorted}

none_first : (xs : List ℕ) → slice_get xs 0 ≡ None → xs ≡ []
none_first [] e = refl
none_first (x ∷ xs) e = let z : ◌≡◌ {A = ℕ} 0 1 = cc in absurd (omega arith)

some_first : (xs : List ℕ) (p : ℕ) → slice_get xs 0 ≡ Some p → (ps : List ℕ) × (xs ≡ p ∷ ps)
some_first [] p e = let z : ◌≡◌ {A = ℕ} 0 1 = cc in absurd (omega arith)
some_first (x ∷ xs) p e = (xs, let s : x ≡ p = cc in ap (λ y. y ∷ xs) s)

pub all_among : (P : ℕ → Type 0) (q : ℕ) (ys : List ℕ) → AllByRecursion P ys → among q ys ≡ true → P q
all_among P q [] h e = let z : ◌≡◌ {A = ℕ} 0 1 = cc in absurd (omega arith)
all_among P q (y ∷ ys) (h, hs) e =
    ⊎_elim (λ is. subst P (sym (eqb-true q y is)) h) (λ t. all_among P q ys hs t) (or_cases (eqb q y) (among q ys) e)

-- what is among a list and is not its head is among the rest
behind_head : (p : ℕ) (ps : List ℕ) (q : ℕ) → among q (p ∷ ps) ≡ true → (q ≡ p → ⊥) → among q ps ≡ true
behind_head p ps q e ne = ⊎_elim (λ s. absurd (ne (eqb-true q p s))) (λ h. h) (or_cases (eqb q p) (among q ps) e)

module _ (b : ℕ → ℕ → Bool) where
  all_insert : (P : ℕ → Type 0) (x : ℕ) (ys : List ℕ) → P x → AllByRecursion P ys → AllByRecursion P (insert b x ys)
  all_insert P x [] h hs = (h, tt)
  all_insert P x (y ∷ ys) h (k, ks) =
      cond_both (b x y) (x ∷ y ∷ ys) (y ∷ insert b x ys) (AllByRecursion P) (λ _. (h, (k, ks))) (λ _. (k, all_insert P x ys h ks))

  pub all_sorted : (P : ℕ → Type 0) (f : ℕ → Bool) (n : ℕ) → ((q : ℕ) → q < n → f q ≡ true → P q) → AllByRecursion P (sorted b f n)
  all_sorted P f zero h = tt
  all_sorted P f (suc n) h =
      let more : AllByRecursion P (sorted b f n) = all_sorted P f n (λ q lt. h q (omega arith)) in
      cond_both (f n) (insert b n (sorted b f n)) (sorted b f n) (AllByRecursion P)
      (λ e. all_insert P n (sorted b f n) (h n (omega arith) e) more)
      (λ _. more)

  length_insert : (x : ℕ) (ys : List ℕ) → length (insert b x ys) ≡ suc (length ys)
  length_insert x [] = refl
  length_insert x (y ∷ ys) =
      cond_both (b x y) (x ∷ y ∷ ys) (y ∷ insert b x ys) (λ zs. length zs ≡ suc (suc (length ys))) (λ _. refl) (λ _. ap suc (length_insert x ys))

  pub length_sorted : (f : ℕ → Bool) (n : ℕ) → length (sorted b f n) ≤ n
  length_sorted f zero = omega arith
  length_sorted f (suc n) =
      let more = length_sorted f n in
      cond_both (f n) (insert b n (sorted b f n)) (sorted b f n) (λ zs. length zs ≤ suc n)
      (λ _. omega (arith, length_insert n (sorted b f n)))
      (λ _. omega arith)

  swapped : (x y z : Bool) → (x || (y || z)) ≡ (y || (x || z))
  swapped x y z = grind arith

  among_insert : (q x : ℕ) (ys : List ℕ) → among q (insert b x ys) ≡ (eqb q x || among q ys)
  among_insert q x [] = refl
  among_insert q x (y ∷ ys) =
      cond_both (b x y) (x ∷ y ∷ ys) (y ∷ insert b x ys) (λ zs. among q zs ≡ (eqb q x || (eqb q y || among q ys)))
      (λ _. refl)
      (λ _. ap (λ t. eqb q y || t) (among_insert q x ys) ∙ swapped (eqb q y) (eqb q x) (among q ys))

  pub among_sorted : (f : ℕ → Bool) (n q : ℕ) → q < n → f q ≡ true → among q (sorted b f n) ≡ true
  among_sorted f zero q lt e = absurd (omega arith)
  among_sorted f (suc n) q lt e =
      ⊎_elim
      (λ is.
      let here : f n ≡ true = ap f (sym is) ∙ e in
      ap (among q) (cond-true (f n) (insert b n (sorted b f n)) (sorted b f n) here) ∙ among_insert q n (sorted b f n) ∙
      or_left (eqb q n) (among q (sorted b f n)) (eq-eqb q n is))
      (λ ne.
      let more : among q (sorted b f n) ≡ true = among_sorted f n q (omega (arith, ne)) e in
      cond_both (f n) (insert b n (sorted b f n)) (sorted b f n) (λ zs. among q zs ≡ true)
      (λ _. among_insert q n (sorted b f n) ∙ or_right (eqb q n) (among q (sorted b f n)) more)
      (λ _. more))
      (cases_eq q n)

  head_ahead : (p : ℕ) (ps : List ℕ) → AllByRecursion (λ q. b p q ≡ true) ps → (q : ℕ) → among q (p ∷ ps) ≡ true → (q ≡ p → ⊥) → b p q ≡ true
  head_ahead p ps h q e ne = all_among (λ x. b p x ≡ true) q ps h (behind_head p ps q e ne)

  sorted_same : (f g : ℕ → Bool) (n : ℕ) → ((q : ℕ) → q < n → f q ≡ g q) → sorted b f n ≡ sorted b g n
  sorted_same f g zero h = refl
  sorted_same f g (suc n) h =
      let more : sorted b f n ≡ sorted b g n = sorted_same f g n (λ q lt. h q (omega arith)) in
      ap (λ t. cond t (insert b n (sorted b f n)) (sorted b f n)) (h n (omega arith)) ∙
      ap (λ zs. cond (g n) (insert b n zs) zs) more

  insert_front : (x : ℕ) (ys : List ℕ) → AllByRecursion (λ y. b x y ≡ true) ys → insert b x ys ≡ x ∷ ys
  insert_front x [] h = refl
  insert_front x (y ∷ ys) (h, _) = cond-true (b x y) (x ∷ y ∷ ys) (y ∷ insert b x ys) h

  less_others : (f : ℕ → Bool) (p q : ℕ) → (q ≡ p → ⊥) → less f p q ≡ f q
  less_others f p q ne = grind arith

  less_itself : (f : ℕ → Bool) (p : ℕ) → less f p p ≡ false
  less_itself f p = ⊎_elim (λ e. absurd (less_other f p p e refl)) (λ e. e) (cases_Bool (less f p p))

  pub sorted_none : (f : ℕ → Bool) (n : ℕ) → ((q : ℕ) → q < n → f q ≡ false) → sorted b f n ≡ []
  sorted_none f zero h = refl
  sorted_none f (suc n) h =
      cond-false (f n) (insert b n (sorted b f n)) (sorted b f n) (h n (omega arith)) ∙ sorted_none f n (λ q lt. h q (omega arith))

  head_insert : (x : ℕ) (ys : List ℕ) → Some (nearer b x (slice_get ys 0)) ≡ slice_get (insert b x ys) 0
  head_insert x [] = refl
  head_insert x (y ∷ ys) =
      ⊎_elim
      (λ e. ap Some (cond-true (b x y) x y e) ∙ ap (λ zs. slice_get zs 0) (sym (cond-true (b x y) (x ∷ y ∷ ys) (y ∷ insert b x ys) e)))
      (λ e. ap Some (cond-false (b x y) x y e) ∙ ap (λ zs. slice_get zs 0) (sym (cond-false (b x y) (x ∷ y ∷ ys) (y ∷ insert b x ys) e)))
      (cases_Bool (b x y))

  -- the first under the order stands at the head
  first_sorted : (f : ℕ → Bool) (n : ℕ) → first_of b f n ≡ slice_get (sorted b f n) 0
  first_sorted f zero = refl
  first_sorted f (suc n) =
      ⊎_elim
      (λ e. cond-true (f n) (Some (nearer b n (first_of b f n))) (first_of b f n) e ∙
      ap (λ o. Some (nearer b n o)) (first_sorted f n) ∙ head_insert n (sorted b f n) ∙
      ap (λ zs. slice_get zs 0) (sym (cond-true (f n) (insert b n (sorted b f n)) (sorted b f n) e)))
      (λ e. cond-false (f n) (Some (nearer b n (first_of b f n))) (first_of b f n) e ∙ first_sorted f n ∙
      ap (λ zs. slice_get zs 0) (sym (cond-false (f n) (insert b n (sorted b f n)) (sorted b f n) e)))
      (cases_Bool (f n))

  pub sorted_done : (f : ℕ → Bool) (n : ℕ) → first_of b f n ≡ None → sorted b f n ≡ []
  sorted_done f n e = none_first (sorted b f n) (sym (first_sorted f n) ∙ e)

  module _ (never : (p q : ℕ) → b p q ≡ true → b q p ≡ false) where
    pub sorted_first :
        (f : ℕ → Bool) (n p : ℕ) → p < n → f p ≡ true → ((q : ℕ) → q < n → f q ≡ true → (q ≡ p → ⊥) → b p q ≡ true) →
        sorted b f n ≡ p ∷ sorted b (less f p) n
    sorted_first f zero p lt e h = absurd (omega arith)
    sorted_first f (suc n) p lt e h =
        let g = less f p in
        let ys = sorted b f n in
        let zs = sorted b g n in
        ⊎_elim
        (λ is.
        let here : f n ≡ true = ap f (sym is) ∙ e in
        let gone : g n ≡ false = ap (less f p) (sym is) ∙ less_itself f p in
        let front : AllByRecursion (λ y. b n y ≡ true) ys =
        all_sorted (λ y. b n y ≡ true) f n (λ q less' e'. subst (λ x. b x q ≡ true) is (h q (omega arith) e' (λ same. omega arith))) in
        let same : ys ≡ zs = sorted_same f g n (λ q less'. sym (less_others f p q (λ s. omega arith))) in
        cond-true (f n) (insert b n ys) ys here ∙ insert_front n ys front ∙ ap (λ x. x ∷ ys) (sym is) ∙ ap (λ xs. p ∷ xs) same ∙
        ap (λ xs. p ∷ xs) (sym (cond-false (g n) (insert b n zs) zs gone)))
        (λ ne.
        let more : ys ≡ p ∷ zs = sorted_first f n p (omega (arith, ne)) e (λ q less'. h q (omega arith)) in
        let other : n ≡ p → ⊥ = λ s. ne (sym s) in
        ⊎_elim
        (λ e'.
        let behind : b n p ≡ false = never p n (h n (omega arith) e' other) in
        let kept : g n ≡ true = less_others f p n other ∙ e' in
        cond-true (f n) (insert b n ys) ys e' ∙ ap (insert b n) more ∙ cond-false (b n p) (n ∷ p ∷ zs) (p ∷ insert b n zs) behind ∙
        ap (λ xs. p ∷ xs) (sym (cond-true (g n) (insert b n zs) zs kept)))
        (λ e'.
        let left : g n ≡ false = less_others f p n other ∙ e' in
        cond-false (f n) (insert b n ys) ys e' ∙ more ∙ ap (λ xs. p ∷ xs) (sym (cond-false (g n) (insert b n zs) zs left)))
        (cases_Bool (f n)))
        (cases_eq p n)

    module _ (either : (p q : ℕ) → (p ≡ q → ⊥) → b p q ≡ false → b q p ≡ true)
        (through : (o p q : ℕ) → b o p ≡ true → b p q ≡ true → b o q ≡ true) where
      abbrev Ahead : ℕ → ℕ → Type 0
      Ahead p q = b p q ≡ true

      pairwise_insert : (x : ℕ) (ys : List ℕ) → AllByRecursion (λ y. x ≡ y → ⊥) ys → Pairwise Ahead ys → Pairwise Ahead (insert b x ys)
      pairwise_insert x [] ne h = (tt, tt)
      pairwise_insert x (y ∷ ys) (ne, nes) (h, hs) =
          cond_both (b x y) (x ∷ y ∷ ys) (y ∷ insert b x ys) (Pairwise Ahead)
          (λ e. ((e, All-weaker (Ahead y) (Ahead x) (λ q k. through x y q e k) ys h), (h, hs)))
          (λ e. (all_insert (Ahead y) x ys (either x y ne e) h, pairwise_insert x ys nes hs))

      pub pairwise_sorted : (f : ℕ → Bool) (n : ℕ) → Pairwise Ahead (sorted b f n)
      pairwise_sorted f zero = tt
      pairwise_sorted f (suc n) =
          let more = pairwise_sorted f n in
          cond_both (f n) (insert b n (sorted b f n)) (sorted b f n) (Pairwise Ahead)
          (λ _. pairwise_insert n (sorted b f n) (all_sorted (λ y. n ≡ y → ⊥) f n (λ q lt _ s. omega arith)) more)
          (λ _. more)

      pub sorted_next : (f : ℕ → Bool) (n p : ℕ) → first_of b f n ≡ Some p → (p < n) × (f p ≡ true) × (sorted b f n ≡ p ∷ sorted b (less f p) n)
      sorted_next f n p e =
          let (ps, is) = some_first (sorted b f n) p (sym (first_sorted f n) ∙ e) in
          let P : ℕ → Type 0 = λ q. (q < n) × (f q ≡ true) in
          let (lt, here) = (subst (AllByRecursion P) is (all_sorted P f n (λ q a c. (a, c)))).0 in
          let ahead = (subst (Pairwise Ahead) is (pairwise_sorted f n)).0 in
          (lt, here, sorted_first f n p lt here (λ q a c ne. head_ahead p ps ahead q (subst (λ xs. among q xs ≡ true) is (among_sorted f n q a c)) ne))

      pub sorted_only :
          (f : ℕ → Bool) (n : ℕ) (ps : List ℕ) → Pairwise Ahead ps → AllByRecursion (λ q. (q < n) × (f q ≡ true)) ps →
          ((q : ℕ) → q < n → f q ≡ true → among q ps ≡ true) → ps ≡ sorted b f n
      sorted_only f n [] ahead only every =
          sym (sorted_none f n (λ q lt. ⊎_elim (λ e. let z : ◌≡◌ {A = ℕ} 0 1 = let w = every q lt e in cc in absurd (omega arith)) (λ e. e) (cases_Bool (f q))))
      sorted_only f n (p ∷ ps) (ahead, aheads) ((lt, here), only) every =
          let g = less f p in
          let not_first : (q : ℕ) → Ahead p q → q ≡ p → ⊥ = λ q a s. both_ways (b q p) (never p q a) (subst (λ x. b x p ≡ true) (sym s) (subst (λ x. b p x ≡ true) s a)) in
          let others : AllByRecursion (λ q. (q < n) × (g q ≡ true)) ps = all_both (λ q. (q < n) × (f q ≡ true)) (Ahead p) (λ q. (q < n) × (g q ≡ true)) (λ q (a, c) k. (a, less_from f p q c (not_first q k))) ps only ahead in
          let rest : ps ≡ sorted b g n = sorted_only g n ps aheads others (λ q a c. behind_head p ps q (every q a (less_in f p q c)) (less_other f p q c)) in
          ap (λ xs. p ∷ xs) rest ∙ sym (sorted_first f n p lt here (λ q a c ne. head_ahead p ps ahead q (every q a c) ne))

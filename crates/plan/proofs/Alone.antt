-- No file is both a plan and refused, and none is refused for two reasons.
--     early_.., terms_.., pairs_..       a check that fails here has passed where a later one is reached
--     one_term, one_pair, one_surplus    the first place at fault is one
--     agrees                             two refusals of a file are the same
--     not_both                           a file that describes a plan is not refused
use Rattle.std.proofs.Common.{◌≡◌, ℕ, ◌<◌, ◌≤◌, ◌⊎◌, List, length, sym, refl, ap, ◌∙◌, ⊎_elim, arith}
use Rattle.std.proofs.lemmas.Bool.{cases_order}
use Rattle.plan.specs.Bits.{whole_bytes, Filled, Surplus as SurplusFrom}
use Rattle.plan.specs.Layout.{bits_in, pairs_in, terms_in, Describes, Headed, Long, PairsBelow, Refuses, TreeBelow}
use Rattle.plan.specs.declared.fault.BitsFault.TheVariants.{BufferTooSmall, EndsEarly, Surplus}
use Rattle.plan.specs.declared.fault.PlanFault.{PlanFault}
use Rattle.plan.specs.declared.fault.PlanFault.TheVariants.{Bits, BroaderTerm, PairCount, PairTerms, TermCount}
use Rattle.plan.specs.declared.shape.Plan.{Plan}

module _ (bs : List ℕ) where
  -- the file is shorter than its header, or than its fields
  abbrev Short : Type 0
  Short = (length bs < 4) ⊎ (Headed bs × (length bs < whole_bytes (bits_in bs)))

  -- no number of terms that a plan has
  abbrev NoTerms : Type 0
  NoTerms = (terms_in bs ≡ 0) ⊎ (256 < terms_in bs)

  early_long : Short → Long bs → ⊥
  early_long short (head, long) = ⊎_elim (λ h. omega (arith, head.0)) (λ h. omega (arith, h.1)) short

  terms_counted : NoTerms → 1 ≤ terms_in bs → terms_in bs ≤ 256 → ⊥
  terms_counted bad some few = ⊎_elim (λ h. omega arith) (λ h. omega arith) bad

  terms_headed : NoTerms → Headed bs → ⊥
  terms_headed bad head = terms_counted bad head.1.0 head.1.1

  pairs_headed : 256 < pairs_in bs → Headed bs → ⊥
  pairs_headed bad head = omega (arith, head.1.2)

  early_terms : Short → Refuses bs TermCount → ⊥
  early_terms short (long, bad) = ⊎_elim (λ h. omega arith) (λ h. terms_headed bad h.0) short

  early_pairs : Short → Refuses bs PairCount → ⊥
  early_pairs short (long, some, few, bad) = ⊎_elim (λ h. omega arith) (λ h. pairs_headed bad h.0) short

  term_tree : (t : ℕ) → Refuses bs (BroaderTerm t) → TreeBelow bs (terms_in bs) (terms_in bs) → ⊥
  term_tree t r tree = omega (arith, r.4, tree t r.1 r.2)

  pair_pairs : (q : ℕ) → Refuses bs (PairTerms q) → PairsBelow bs (terms_in bs) (pairs_in bs) → ⊥
  pair_pairs q r pairs = r.3 (pairs q r.1)

  one_term : (t u : ℕ) → Refuses bs (BroaderTerm t) → Refuses bs (BroaderTerm u) → t ≡ u
  one_term t u r s =
      ⊎_elim (λ e. e) (⊎_elim (λ h. absurd (omega (arith, r.4, s.3 t r.1 h))) (λ h. absurd (omega (arith, s.4, r.3 u s.1 h)))) (cases_order t u)

  one_pair : (p q : ℕ) → Refuses bs (PairTerms p) → Refuses bs (PairTerms q) → p ≡ q
  one_pair p q r s = ⊎_elim (λ e. e) (⊎_elim (λ h. absurd (r.3 (s.2 p h))) (λ h. absurd (s.3 (r.2 q h)))) (cases_order p q)

  later_surplus : (n i j : ℕ) → i < j → SurplusFrom bs n i → SurplusFrom bs n j → ⊥
  later_surplus n i j less (low, _, here) (_, zeros, there) =
      ⊎_elim (λ h. omega (arith, h.1, zeros i low less)) (λ h. ⊎_elim (λ k. omega (arith, h.0, k.0)) (λ k. omega (arith, h.0, k.0)) there) here

  one_surplus : (i j : ℕ) → SurplusFrom bs (bits_in bs) i → SurplusFrom bs (bits_in bs) j → i ≡ j
  one_surplus i j r s =
      ⊎_elim (λ e. e) (⊎_elim (λ h. absurd (later_surplus (bits_in bs) i j h r s)) (λ h. absurd (later_surplus (bits_in bs) j i h s r))) (cases_order i j)

  surplus_filled : (i : ℕ) → SurplusFrom bs (bits_in bs) i → Filled bs (bits_in bs) → ⊥
  surplus_filled i (low, _, here) (zeros, short) = ⊎_elim (λ h. omega (arith, h.1, zeros i low h.0)) (λ h. omega (arith, h.1)) here

  pub agrees : (f g : PlanFault) → Refuses bs f → Refuses bs g → f ≡ g
  agrees (Bits (EndsEarly i)) (Bits (EndsEarly j)) r s = ap (λ k. Bits (EndsEarly k)) (r.0 ∙ sym s.0)
  agrees (Bits (EndsEarly i)) TermCount r s = absurd (early_terms r.1 s)
  agrees (Bits (EndsEarly i)) PairCount r s = absurd (early_pairs r.1 s)
  agrees (Bits (EndsEarly i)) (BroaderTerm j) r s = absurd (early_long r.1 s.0)
  agrees (Bits (EndsEarly i)) (PairTerms j) r s = absurd (early_long r.1 s.0.0)
  agrees (Bits (EndsEarly i)) (Bits (Surplus j)) r s = absurd (early_long r.1 s.0.0.0)
  agrees (Bits (EndsEarly i)) (Bits (BufferTooSmall j)) r s = absurd s
  agrees TermCount (Bits (EndsEarly j)) r s = absurd (early_terms s.1 r)
  agrees TermCount TermCount r s = refl
  agrees TermCount PairCount r s = absurd (terms_counted r.1 s.1 s.2)
  agrees TermCount (BroaderTerm j) r s = absurd (terms_headed r.1 s.0.0)
  agrees TermCount (PairTerms j) r s = absurd (terms_headed r.1 s.0.0.0)
  agrees TermCount (Bits (Surplus j)) r s = absurd (terms_headed r.1 s.0.0.0.0)
  agrees TermCount (Bits (BufferTooSmall j)) r s = absurd s
  agrees PairCount (Bits (EndsEarly j)) r s = absurd (early_pairs s.1 r)
  agrees PairCount TermCount r s = absurd (terms_counted s.1 r.1 r.2)
  agrees PairCount PairCount r s = refl
  agrees PairCount (BroaderTerm j) r s = absurd (pairs_headed r.3 s.0.0)
  agrees PairCount (PairTerms j) r s = absurd (pairs_headed r.3 s.0.0.0)
  agrees PairCount (Bits (Surplus j)) r s = absurd (pairs_headed r.3 s.0.0.0.0)
  agrees PairCount (Bits (BufferTooSmall j)) r s = absurd s
  agrees (BroaderTerm i) (Bits (EndsEarly j)) r s = absurd (early_long s.1 r.0)
  agrees (BroaderTerm i) TermCount r s = absurd (terms_headed s.1 r.0.0)
  agrees (BroaderTerm i) PairCount r s = absurd (pairs_headed s.3 r.0.0)
  agrees (BroaderTerm i) (BroaderTerm j) r s = ap BroaderTerm (one_term i j r s)
  agrees (BroaderTerm i) (PairTerms j) r s = absurd (term_tree i r s.0.1)
  agrees (BroaderTerm i) (Bits (Surplus j)) r s = absurd (term_tree i r s.0.0.1)
  agrees (BroaderTerm i) (Bits (BufferTooSmall j)) r s = absurd s
  agrees (PairTerms i) (Bits (EndsEarly j)) r s = absurd (early_long s.1 r.0.0)
  agrees (PairTerms i) TermCount r s = absurd (terms_headed s.1 r.0.0.0)
  agrees (PairTerms i) PairCount r s = absurd (pairs_headed s.3 r.0.0.0)
  agrees (PairTerms i) (BroaderTerm j) r s = absurd (term_tree j s r.0.1)
  agrees (PairTerms i) (PairTerms j) r s = ap PairTerms (one_pair i j r s)
  agrees (PairTerms i) (Bits (Surplus j)) r s = absurd (pair_pairs i r s.0.1)
  agrees (PairTerms i) (Bits (BufferTooSmall j)) r s = absurd s
  agrees (Bits (Surplus i)) (Bits (EndsEarly j)) r s = absurd (early_long s.1 r.0.0.0)
  agrees (Bits (Surplus i)) TermCount r s = absurd (terms_headed s.1 r.0.0.0.0)
  agrees (Bits (Surplus i)) PairCount r s = absurd (pairs_headed s.3 r.0.0.0.0)
  agrees (Bits (Surplus i)) (BroaderTerm j) r s = absurd (term_tree j s r.0.0.1)
  agrees (Bits (Surplus i)) (PairTerms j) r s = absurd (pair_pairs j s r.0.1)
  agrees (Bits (Surplus i)) (Bits (Surplus j)) r s = ap (λ k. Bits (Surplus k)) (one_surplus i j r.1 s.1)
  agrees (Bits (Surplus i)) (Bits (BufferTooSmall j)) r s = absurd s
  agrees (Bits (BufferTooSmall i)) (Bits (EndsEarly j)) r s = absurd r
  agrees (Bits (BufferTooSmall i)) TermCount r s = absurd r
  agrees (Bits (BufferTooSmall i)) PairCount r s = absurd r
  agrees (Bits (BufferTooSmall i)) (BroaderTerm j) r s = absurd r
  agrees (Bits (BufferTooSmall i)) (PairTerms j) r s = absurd r
  agrees (Bits (BufferTooSmall i)) (Bits (Surplus j)) r s = absurd r
  agrees (Bits (BufferTooSmall i)) (Bits (BufferTooSmall j)) r s = absurd r

  pub not_both : (p : Plan) (f : PlanFault) → Describes bs p → Refuses bs f → ⊥
  not_both p (Bits (EndsEarly i)) d r = early_long r.1 d.checked.0.0
  not_both p TermCount d r = terms_headed r.1 d.checked.0.0.0
  not_both p PairCount d r = pairs_headed r.3 d.checked.0.0.0
  not_both p (BroaderTerm i) d r = term_tree i r d.checked.0.1
  not_both p (PairTerms i) d r = pair_pairs i r d.checked.1
  not_both p (Bits (Surplus i)) d r = surplus_filled i r.1 d.filled
  not_both p (Bits (BufferTooSmall i)) d r = r

-- Every file describes a plan or is refused.
--     first_term, first_pair, first_bit    the first place at fault, or none
--     filled_row                           an array that is filled with what a function gives
--     read_plan                            a file that passes every check describes a plan
--     read_total                           every file describes a plan or is refused
use Rattle.std.proofs.Common.{◌≡◌, ℕ, zero, suc, ◌+◌, ◌-◌, ◌*◌, ◌<◌, ◌≤◌, ◌⊎◌, List, length, set, replicate, sym, refl, subst, inl, inr, ⊎_elim, arith}
use Rattle.std.proofs.lemmas.Bool.{cases_eq, cases_lt}
use Rattle.plan.specs.Bits.{bit_at, whole_bytes, Filled, Zeros}
use Rattle.plan.specs.Layout.{bits_in, broader_in, budget_in, ends_in, pairs_in, terms_in, Describes, Headed, Long, Pairs, PairsBelow, Refuses, Tree, TreeBelow}
use Rattle.plan.specs.Shape.{Ordered}
use Rattle.plan.specs.declared.fault.BitsFault.TheVariants.{EndsEarly, Surplus}
use Rattle.plan.specs.declared.fault.PlanFault.{PlanFault}
use Rattle.plan.specs.declared.fault.PlanFault.TheVariants.{Bits, BroaderTerm, PairCount, PairTerms, TermCount}
use Rattle.plan.specs.declared.shape.Plan.{Plan}
use Rattle.plan.proofs.Fields.{bit_lt, field_lt}
use Rattle.plan.proofs.Rows.{Written, paired_from, pairs_more, rooted_from, tree_more, unpaired_from, written_more, written_none}

filled_row : {X : Type 0} (f : ℕ → X) (d : X) (low k : ℕ) → low + k ≤ 256 → (xs : List X) × Written f d low (low + k) xs
filled_row f d low zero h = let e : low ≡ low + 0 = omega arith in (replicate 256 d, subst (λ i. Written f d low i (replicate 256 d)) e (written_none f d low))
filled_row f d low (suc k) h =
    let r = filled_row f d low k (omega arith) in
    let i = low + k in
    let e : i + 1 ≡ low + suc k = omega arith in
    let xs = set r.0 i (f i) in
    (xs, subst (λ n. Written f d low n xs) e (written_more f d low r.1 (omega arith) (omega arith) refl refl))

module _ (bs : List ℕ) where
  abbrev Read : Type 0
  Read = ((p : Plan) × Describes bs p) ⊎ ((f : PlanFault) × Refuses bs f)

  first_term : (n t : ℕ) → TreeBelow bs n t ⊎ ((u : ℕ) × (0 < u) × (u < t) × TreeBelow bs n u × (u ≤ broader_in bs n u))
  first_term n zero = inl (λ u pos small. absurd (omega arith))
  first_term n (suc t) =
      let s : t + 1 ≡ suc t = omega arith in
      ⊎_elim
      (λ below.
      ⊎_elim
      (λ z. inl (λ u pos small. absurd (omega arith)))
      (λ nz.
      ⊎_elim
      (λ fine. inl (subst (TreeBelow bs n) s (tree_more bs n t below fine)))
      (λ bad. inr (t, omega (arith, nz), omega arith, below, bad))
      (cases_lt (broader_in bs n t) t))
      (cases_eq t 0))
      (λ r. inr (r.0, r.1, omega (arith, r.2), r.3, r.4))
      (first_term n t)

  ordered : (n : ℕ) (e : ℕ × ℕ) → Ordered n e ⊎ (Ordered n e → ⊥)
  ordered n e =
      ⊎_elim
      (λ h. ⊎_elim (λ k. inl (h, k)) (λ k. inr (λ o. omega (arith, o.1))) (cases_lt e.1 n))
      (λ h. inr (λ o. omega (arith, o.0)))
      (cases_lt e.0 e.1)

  first_pair : (n m : ℕ) → PairsBelow bs n m ⊎ ((q : ℕ) × (q < m) × PairsBelow bs n q × (Ordered n (ends_in bs n q) → ⊥))
  first_pair n zero = inl (λ q small. absurd (omega arith))
  first_pair n (suc m) =
      let s : m + 1 ≡ suc m = omega arith in
      ⊎_elim
      (λ below.
      ⊎_elim (λ fine. inl (subst (PairsBelow bs n) s (pairs_more bs n m below fine))) (λ bad. inr (m, omega arith, below, bad)) (ordered n (ends_in bs n m)))
      (λ r. inr (r.0, omega (arith, r.1), r.2, r.3))
      (first_pair n m)

  first_bit : (n k : ℕ) → Zeros bs n (n + k) ⊎ ((i : ℕ) × (n ≤ i) × (i < n + k) × Zeros bs n i × (bit_at bs i ≡ 1))
  first_bit n zero = inl (λ i low high. absurd (omega arith))
  first_bit n (suc k) =
      let i = n + k in
      ⊎_elim
      (λ below.
      ⊎_elim
      (λ z. inl (λ j low high. ⊎_elim (λ e. subst (λ x. bit_at bs x ≡ 0) (sym e) z) (λ ne. below j low (omega (arith, ne))) (cases_eq j i)))
      (λ nz. inr (i, omega arith, omega arith, below, omega (arith, nz, bit_lt bs i)))
      (cases_eq (bit_at bs i) 0))
      (λ r. inr (r.0, r.1, omega (arith, r.2), r.3, r.4))
      (first_bit n k)

  read_plan : Pairs bs → Filled bs (bits_in bs) → (p : Plan) × Describes bs p
  read_plan checked filled =
      let n = terms_in bs in
      let m = pairs_in bs in
      let counted = checked.0.0.0.1 in
      let tree = checked.0.1 in
      let pairs = checked.1 in
      let b = filled_row (broader_in bs n) 0 1 (n - 1) (omega (arith, counted.0, counted.1)) in
      let es = filled_row (ends_in bs n) (0, 0) 0 m (omega (arith, counted.2)) in
      let all : 1 + (n - 1) ≡ n = omega (arith, counted.0) in
      let none : 0 + m ≡ m = omega arith in
      let wb : Written (broader_in bs n) 0 1 n b.0 = subst (λ k. Written (broader_in bs n) 0 1 k b.0) all b.1 in
      let we : Written (ends_in bs n) (0, 0) 0 m es.0 = subst (λ k. Written (ends_in bs n) (0, 0) 0 k es.0) none es.1 in (
        record {
          terms = n;
          pairs = m;
          budget = budget_in bs;
          broader = b.0;
          ends = es.0;
          counted = counted;
          rooted = rooted_from bs b.0 n counted.0 wb tree;
          paired = paired_from bs es.0 n m we pairs;
          unpaired = unpaired_from (ends_in bs n) es.0 m we;
          stored = (field_lt bs 18 8, wb.long, we.long);
        },
        record {
          checked = checked;
          filled = filled;
          terms = refl;
          pairs = refl;
          budget = refl;
          broader = λ t pos small. wb.here t pos small;
          ends = λ q small. we.here q (omega arith) small;
        },
      )

  read_end : Pairs bs → Read
  read_end checked =
      let n = bits_in bs in
      let end = 8 * whole_bytes n in
      let k = end - n in
      let e : n + k ≡ end = omega arith in
      ⊎_elim
      (λ zeros.
      let fill : Zeros bs n end = subst (Zeros bs n) e zeros in
      ⊎_elim
      (λ more. inr (Bits (Surplus end), (checked, (omega arith, fill, inr (refl, more)))))
      (λ short. inl (read_plan checked (fill, short)))
      (cases_lt (whole_bytes n) (length bs)))
      (λ r. inr (Bits (Surplus r.0), (checked, (r.1, r.3, inl (omega (arith, r.2), r.4)))))
      (first_bit n k)

  read_pairs : Tree bs → Read
  read_pairs tree =
      ⊎_elim (λ pairs. read_end (tree, pairs)) (λ r. inr (PairTerms r.0, (tree, r.1, r.2, r.3))) (first_pair (terms_in bs) (pairs_in bs))

  read_tree : Long bs → Read
  read_tree long =
      ⊎_elim (λ tree. read_pairs (long, tree)) (λ r. inr (BroaderTerm r.0, (long, r.1, r.2, r.3, r.4))) (first_term (terms_in bs) (terms_in bs))

  pub read_total : Read
  read_total =
      ⊎_elim
      (λ short. inr (Bits (EndsEarly (8 * length bs)), (refl, inl short)))
      (λ head.
      ⊎_elim
      (λ none. inr (TermCount, (head, inl none)))
      (λ some.
      ⊎_elim
      (λ many. inr (TermCount, (head, inr many)))
      (λ few.
      ⊎_elim
      (λ many. inr (PairCount, (head, omega (arith, some), few, many)))
      (λ pairs.
      let headed : Headed bs = (head, (omega (arith, some), few, pairs)) in
      ⊎_elim
      (λ short. inr (Bits (EndsEarly (8 * length bs)), (refl, inr (headed, short))))
      (λ long. read_tree (headed, long))
      (cases_lt (length bs) (whole_bytes (bits_in bs))))
      (cases_lt 256 (pairs_in bs)))
      (cases_lt 256 (terms_in bs)))
      (cases_eq (terms_in bs) 0))
      (cases_lt (length bs) 4)

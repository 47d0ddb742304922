-- The packed bytes of a plan describe it.
--     plan_fits          each number of a plan fits its field
--     packed_says        each field of the packed bytes holds the plan's number
--     packed_described   so the packed bytes describe the plan
--     packed_bytes       and they are bytes
use Rattle.std.proofs.Common.{◌≡◌, ℕ, zero, suc, ◌+◌, ◌-◌, ◌*◌, ◌^◌, ◌<◌, ◌≤◌, List, [], ◌∷◌, ◌++◌, map, length, sym, refl, ap, ◌∙◌, subst, pow-suc, arith}
use Rattle.std.specs.List.{range_with_len, AllByRecursion}
use Rattle.std.proofs.lemmas.List.FromFn.{fill_by_all}
use Rattle.std.proofs.ByRecursion.{All-append, All-from_get_or}
use Rattle.std.proofs.lemmas.List.{get_or_past}
use Rattle.plan.specs.Bits.{bit_at, whole_bytes, Bytes, Filled}
use Rattle.plan.specs.Layout.{bits_in, broader_in, ends_in, pair_place, pairs_in, terms_in, width_for, Describes, PairsBelow, TreeBelow}
use Rattle.plan.specs.Packed.{bits_of, bytes_of, end_fields, head_fields, number_at, packed, pair_fields, plan_fields, term_fields}
use Rattle.plan.specs.Plans.{broader_of, ends_of}
use Rattle.plan.specs.Shape.{Counted, Ordered}
use Rattle.plan.specs.declared.shape.Plan.{Plan}
use Rattle.plan.proofs.Digits.{Binary}
use Rattle.plan.proofs.FieldLists.{ends_more, plan_length, plan_widths, terms_more}
use Rattle.plan.proofs.Holding.{bits_hold, Fits}
use Rattle.plan.proofs.Octets.{binary_at, bit_of_bytes, byte_of_bytes, length_bytes, number_more, number_none}
use Rattle.plan.proofs.PackedBytes.{packed_length, plan_binary}
use Rattle.plan.proofs.Saying.{holds_says, Says}
use Rattle.plan.proofs.Widths.{width_enough}

terms_fit : (w : ℕ) (up : ℕ → ℕ) (j : ℕ) → ((t : ℕ) → 0 < t → t ≤ j → up t < 2 ^ w) → AllByRecursion Fits (term_fields w up j)
terms_fit w up zero each = tt
terms_fit w up (suc j) each =
    let e : suc j ≡ j + 1 = omega arith in
    subst (AllByRecursion Fits) (sym (ap (term_fields w up) e ∙ terms_more w up j))
    (All-append Fits (term_fields w up j) ((w, up (1 + j)) ∷ []) (terms_fit w up j (λ t pos le. each t pos (omega arith))) (each (1 + j) (omega arith) (omega arith), tt))

ends_fit : (w : ℕ) (ends : ℕ → ℕ × ℕ) (m : ℕ) → ((q : ℕ) → q < m → ((ends q).0 < 2 ^ w) × ((ends q).1 < 2 ^ w)) → AllByRecursion Fits (end_fields w ends m)
ends_fit w ends zero each = tt
ends_fit w ends (suc m) each =
    let e : suc m ≡ m + 1 = omega arith in
    let last = each m (omega arith) in
    subst (AllByRecursion Fits) (sym (ap (end_fields w ends) e ∙ ends_more w ends m))
    (All-append Fits (end_fields w ends m) (pair_fields w ends m) (ends_fit w ends m (λ q h. each q (omega arith))) (last.0, (last.1, tt)))

pub plan_fits : (p : Plan) → AllByRecursion Fits (plan_fields p)
plan_fits p =
    let n = p.terms in
    let w = width_for n in
    let wide : n ≤ 2 ^ w = width_enough n p.counted.1 in
    let heads = head_fields n p.pairs p.budget in
    let ts = term_fields w (broader_of p) (n - 1) in
    let es = end_fields w (ends_of p) p.pairs in
    All-append Fits heads (ts ++ es)
    (omega (arith, p.counted.1), (omega (arith, p.counted.2), (p.stored.0, tt)))
    (All-append Fits ts es
    (terms_fit w (broader_of p) (n - 1) (λ t pos le. omega (arith, wide, p.rooted.0 t pos (omega arith))))
    (ends_fit w (ends_of p) p.pairs (λ q h. let o = p.paired q h in (omega (arith, wide, o.0, o.1), omega (arith, wide, o.1)))))

module _ (p : Plan) where
  pub packed_says : Says (packed p) p
  unfolding packed bits_of
  packed_says =
      let bits = bits_of p in
      let row = fill_by_all (bit_at (packed p)) bits (length bits) 0 refl (λ k h. sym (bit_of_bytes bits k (plan_binary p) (omega arith))) in
      holds_says (packed p) p
      (bits_hold (packed p) 0 (plan_fields p) (plan_fits p) (ap (λ n. map (bit_at (packed p)) (range_with_len 0 n)) (plan_widths p ∙ sym (plan_length p)) ∙ sym row))

  packed_bits : bits_in (packed p) ≡ pair_place p.terms p.pairs
  packed_bits = let s = packed_says in ap (λ n. pair_place n (pairs_in (packed p))) s.terms ∙ ap (pair_place p.terms) s.pairs

  packed_filled : Filled (packed p) (pair_place p.terms p.pairs)
  unfolding packed
  packed_filled =
      let bits = bits_of p in
      let long = plan_length p in
      (λ k past h. bit_of_bytes bits k (plan_binary p) (omega arith) ∙ get_or_past bits k 0 (omega arith), omega (arith, packed_length p))

  packed_tree : TreeBelow (packed p) p.terms p.terms
  packed_tree = λ u pos less. subst (λ (v : ℕ). v < u) (sym (packed_says.broader u pos less)) (p.rooted.0 u pos less)

  packed_pairs : PairsBelow (packed p) p.terms p.pairs
  packed_pairs = λ q less. subst (λ (e : ℕ × ℕ). Ordered p.terms e) (sym (packed_says.ends q less)) (p.paired q less)

  pub packed_described : Describes (packed p) p
  packed_described =
      let bs = packed p in
      let s = packed_says in
      let n = sym s.terms in
      let m = sym s.pairs in
      let bits = packed_bits in
      let counted = subst (λ k. Counted k (pairs_in bs)) n (subst (λ k. Counted p.terms k) m p.counted) in
      record {
        checked = (
          (((omega (arith, packed_length p), counted), omega (arith, packed_length p, ap whole_bytes bits)), subst (λ k. TreeBelow bs k k) n packed_tree),
          subst (λ k. PairsBelow bs k (pairs_in bs)) n (subst (λ k. PairsBelow bs p.terms k) m packed_pairs),
        );
        filled = subst (λ k. Filled bs k) (sym bits) packed_filled;
        terms = n;
        pairs = m;
        budget = sym s.budget;
        broader = subst (λ k. (t : ℕ) → 0 < t → t < k → broader_of p t ≡ broader_in bs k t) n (λ t pos less. sym (s.broader t pos less));
        ends = subst (λ j. (q : ℕ) → q < j → ends_of p q ≡ ends_in bs (terms_in bs) q) m (λ q less. sym (s.ends q less) ∙ ap (λ k. ends_in bs k q) n);
      }

number_lt : (bits : List ℕ) (i w : ℕ) → Binary bits → number_at bits i w < 2 ^ w
number_lt bits i zero all = omega (arith, number_none bits i)
number_lt bits i (suc w) all =
    let s : suc w ≡ w + 1 = omega arith in
    let e = ap (number_at bits i) s ∙ number_more bits i w in
    omega (arith, e, number_lt bits i w all, binary_at bits (i + w) all, pow-suc 2 w)

pub packed_bytes : (p : Plan) → Bytes (packed p)
unfolding packed
packed_bytes p =
    let bits = bits_of p in
    All-from_get_or (λ b. b < 256) (bytes_of bits) 0 (λ k h. omega (arith, byte_of_bytes bits k (omega (arith, length_bytes bits)), number_lt bits (8 * k) 8 (plan_binary p)))

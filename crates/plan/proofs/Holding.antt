-- Fields that stand one behind the other in bytes.
--     Holds bs i fs              from place i on, the bytes hold the numbers of the fields
--     field_bits_lem             the bits of a field are the bits of its number
--     holds_bits                 the bits of such bytes are the bits of the fields
--     bits_hold                  and bytes with those bits hold the fields
--     holds_join, holds_split    for two lists of fields, one behind the other
--     terms_hold, hold_terms     for the fields of terms, one by one
--     ends_hold, hold_ends       for the fields of pairs, one by one
use Rattle.std.proofs.Common.{◌≡◌, ℕ, zero, suc, ◌+◌, ◌-◌, ◌*◌, ◌/◌, ◌^◌, ◌<◌, ◌≤◌, List, [], ◌∷◌, ◌++◌, map, length, take, drop, sym, refl, ap, ◌∙◌, subst, ⊎_elim, add-zero, zero-add, add-one, arith}
use Rattle.std.specs.List.{range_with_len, flat_map, AllByRecursion}
use Rattle.std.proofs.lemmas.Nat.{div-mul-add, mod-mul-add}
use Rattle.std.proofs.lemmas.List.FromFn.{length-map-range_with_len, map-range_with_len_more}
use Rattle.std.proofs.lemmas.List.{drop_at, take_at}
use Rattle.std.proofs.lemmas.Bool.{cases_eq}
use Rattle.plan.specs.Bits.{bit_at, field_at}
use Rattle.plan.specs.Packed.{end_fields, field_bits, number_at, number_bits, term_fields}
use Rattle.plan.proofs.Digits.{length_bits}
use Rattle.plan.proofs.FieldLists.{ends_more, terms_more, widths, widths_ends, widths_terms}
use Rattle.plan.proofs.Fields.{bit_lt, field_lt}
use Rattle.plan.proofs.Octets.{number_bits_lem}

-- a number that its field is wide enough for
abbrev pub Fits : ℕ × ℕ → Type 0
Fits f = f.1 < 2 ^ f.0

row_append : (f : ℕ → ℕ) (a n m : ℕ) → map f (range_with_len a (n + m)) ≡ map f (range_with_len a n) ++ map f (range_with_len (a + n) m)
row_append f a zero m = ap (λ k. map f (range_with_len a k)) (zero-add m) ∙ ap (λ k. map f (range_with_len k m)) (sym (add-zero a))
row_append f a (suc n) m =
    let e : suc n + m ≡ suc (n + m) = omega arith in
    let s : a + 1 + n ≡ a + suc n = omega arith in
    ap (λ k. map f (range_with_len a k)) e ∙ ap (λ xs. f a ∷ xs) (row_append f (a + 1) n m ∙ ap (λ k. map f (range_with_len (a + 1) n) ++ map f (range_with_len k m)) s)

-- equal lists with equally long fronts have equal fronts and equal rests
parts : (xs ys us vs : List ℕ) (n : ℕ) → length xs ≡ n → length us ≡ n → xs ++ ys ≡ us ++ vs → (xs ≡ us) × (ys ≡ vs)
parts xs ys us vs n p q e =
    (sym (take_at xs ys n p) ∙ ap (take n) e ∙ take_at us vs n q, sym (drop_at xs ys n p) ∙ ap (drop n) e ∙ drop_at us vs n q)

module _ (bs : List ℕ) where
  abbrev pub Holds : ℕ → List (ℕ × ℕ) → Type 0
  Holds i [] = Unit {0}
  Holds i (f ∷ fs) = (field_at bs i f.0 ≡ f.1) × Holds (i + f.0) fs

  pub field_bits_lem : (i w : ℕ) → map (bit_at bs) (range_with_len i w) ≡ number_bits w (field_at bs i w)
  unfolding number_bits field_at
  field_bits_lem i zero = refl
  field_bits_lem i (suc w) =
      let f = field_at bs i w in
      let b = bit_at bs (i + w) in
      let small : b < 2 = bit_lt bs (i + w) in
      ap (λ k. map (bit_at bs) (range_with_len i k)) (sym (add-one w)) ∙ map-range_with_len_more (bit_at bs) i w (i + w) refl ∙
      ap (λ xs. xs ++ (b ∷ [])) (field_bits_lem i w ∙ ap (number_bits w) (sym (div-mul-add f 2 b small))) ∙
      ap (λ x. number_bits w ((f * 2 + b) / 2) ++ (x ∷ [])) (sym (mod-mul-add f 2 b small))

  pub holds_bits : (i : ℕ) (fs : List (ℕ × ℕ)) → Holds i fs → map (bit_at bs) (range_with_len i (widths fs)) ≡ flat_map field_bits fs
  holds_bits i [] h = refl
  holds_bits i (f ∷ fs) (e, h) =
      row_append (bit_at bs) i f.0 (widths fs) ∙
      ap (λ xs. xs ++ map (bit_at bs) (range_with_len (i + f.0) (widths fs))) (field_bits_lem i f.0 ∙ ap (number_bits f.0) e) ∙
      ap (λ xs. field_bits f ++ xs) (holds_bits (i + f.0) fs h)

  pub bits_hold : (i : ℕ) (fs : List (ℕ × ℕ)) → AllByRecursion Fits fs → map (bit_at bs) (range_with_len i (widths fs)) ≡ flat_map field_bits fs → Holds i fs
  bits_hold i [] fit e = tt
  bits_hold i (f ∷ fs) (small, fit) e =
      let w = f.0 in
      let rest = map (bit_at bs) (range_with_len (i + w) (widths fs)) in
      let both = parts (map (bit_at bs) (range_with_len i w)) rest (field_bits f) (flat_map field_bits fs) w (length-map-range_with_len (bit_at bs) i w) (length_bits w f.1) (sym (row_append (bit_at bs) i w (widths fs)) ∙ e) in
      let same : number_bits w (field_at bs i w) ≡ number_bits w f.1 = sym (field_bits_lem i w) ∙ both.0 in
      (sym (number_bits_lem w (field_at bs i w) (field_lt bs i w)) ∙ ap (λ xs. number_at xs 0 w) same ∙ number_bits_lem w f.1 small, bits_hold (i + w) fs fit both.1)

  pub holds_join : (i : ℕ) (fs gs : List (ℕ × ℕ)) → Holds i fs → Holds (i + widths fs) gs → Holds i (fs ++ gs)
  holds_join i [] gs h k = subst (λ j. Holds j gs) (add-zero i) k
  holds_join i (f ∷ fs) gs (e, h) k =
      let s : i + widths (f ∷ fs) ≡ i + f.0 + widths fs = omega arith in
      (e, holds_join (i + f.0) fs gs h (subst (λ j. Holds j gs) s k))

  pub holds_split : (i : ℕ) (fs gs : List (ℕ × ℕ)) → Holds i (fs ++ gs) → Holds i fs × Holds (i + widths fs) gs
  holds_split i [] gs h = (tt, subst (λ j. Holds j gs) (sym (add-zero i)) h)
  holds_split i (f ∷ fs) gs (e, h) =
      let s : i + f.0 + widths fs ≡ i + widths (f ∷ fs) = omega arith in
      let both = holds_split (i + f.0) fs gs h in
      ((e, both.0), subst (λ j. Holds j gs) s both.1)

  module _ (i w : ℕ) (up : ℕ → ℕ) where
    pub terms_hold : (j : ℕ) → ((t : ℕ) → 0 < t → t ≤ j → field_at bs (i + (t - 1) * w) w ≡ up t) → Holds i (term_fields w up j)
    terms_hold zero each = tt
    terms_hold (suc j) each =
        let e : suc j ≡ j + 1 = omega arith in
        let s : 1 + j - 1 ≡ j = omega arith in
        let last = subst (λ k. field_at bs (i + k * w) w ≡ up (1 + j)) s (each (1 + j) (omega arith) (omega arith)) in
        subst (Holds i) (sym (ap (term_fields w up) e ∙ terms_more w up j))
        (holds_join i (term_fields w up j) ((w, up (1 + j)) ∷ []) (terms_hold j (λ t pos le. each t pos (omega arith))) (subst (λ k. field_at bs (i + k) w ≡ up (1 + j)) (sym (widths_terms w up j)) last, tt))

    pub hold_terms : (j : ℕ) → Holds i (term_fields w up j) → (t : ℕ) → 0 < t → t ≤ j → field_at bs (i + (t - 1) * w) w ≡ up t
    hold_terms zero h t pos le = absurd (omega arith)
    hold_terms (suc j) h t pos le =
        let e : suc j ≡ j + 1 = omega arith in
        let both = holds_split i (term_fields w up j) ((w, up (1 + j)) ∷ []) (subst (Holds i) (ap (term_fields w up) e ∙ terms_more w up j) h) in
        ⊎_elim
        (λ here. let s : t - 1 ≡ j = omega arith in
        ap (λ k. field_at bs (i + k * w) w) s ∙ ap (λ k. field_at bs (i + k) w) (sym (widths_terms w up j)) ∙ both.1.0 ∙ ap up (sym here))
        (λ ne. hold_terms j both.0 t pos (omega (arith, ne)))
        (cases_eq t (1 + j))

  module _ (i w : ℕ) (ends : ℕ → ℕ × ℕ) where
    -- both terms of a pair
    abbrev pub At : ℕ → Type 0
    At q = (field_at bs (i + q * (2 * w)) w ≡ (ends q).0) × (field_at bs (i + q * (2 * w) + w) w ≡ (ends q).1)

    pub ends_hold : (m : ℕ) → ((q : ℕ) → q < m → At q) → Holds i (end_fields w ends m)
    ends_hold zero each = tt
    ends_hold (suc m) each =
        let e : suc m ≡ m + 1 = omega arith in
        let last = each m (omega arith) in
        subst (Holds i) (sym (ap (end_fields w ends) e ∙ ends_more w ends m))
        (holds_join i (end_fields w ends m) ((w, (ends m).0) ∷ (w, (ends m).1) ∷ []) (ends_hold m (λ q h. each q (omega arith)))
        (subst (λ k. Holds (i + k) ((w, (ends m).0) ∷ (w, (ends m).1) ∷ [])) (sym (widths_ends w ends m)) (last.0, (last.1, tt))))

    pub hold_ends : (m : ℕ) → Holds i (end_fields w ends m) → (q : ℕ) → q < m → At q
    hold_ends zero h q less = absurd (omega arith)
    hold_ends (suc m) h q less =
        let e : suc m ≡ m + 1 = omega arith in
        let both = holds_split i (end_fields w ends m) ((w, (ends m).0) ∷ (w, (ends m).1) ∷ []) (subst (Holds i) (ap (end_fields w ends) e ∙ ends_more w ends m) h) in
        let last = subst (λ k. Holds (i + k) ((w, (ends m).0) ∷ (w, (ends m).1) ∷ [])) (widths_ends w ends m) both.1 in
        ⊎_elim
        (λ here. subst At (sym here) (last.0, last.1.0))
        (λ ne. hold_ends m both.0 q (omega (arith, ne)))
        (cases_eq q m)

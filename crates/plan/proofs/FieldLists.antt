-- Lists of fields, each a width and a number, and the bits they are written in.
--     widths fs                                                how many bits a list of fields takes
--     length_fields                                            so many bits they are
--     widths_append, widths_terms, widths_ends                 how many bits the parts of a plan take
--     terms_more, ends_more                                    the fields of one term more, of one pair more
--     term_bits_more, end_bits_more                            and their bits
--     head_bits                                                the bits of the header
--     plan_length                                              a plan takes as many bits as its layout says
use Rattle.std.proofs.Common.{◌≡◌, ℕ, zero, suc, ◌+◌, ◌-◌, ◌*◌, ◌<◌, List, [], ◌∷◌, ◌++◌, length, sym, refl, ap, ◌∙◌, add-mul, one-mul, zero-mul, add-one, arith}
use Rattle.std.specs.List.{range_with_len, flat_map}
use Rattle.std.proofs.lemmas.List.FromFn.{map-range_with_len_more}
use Rattle.std.proofs.lemmas.Grind.{flat_map-append}
use Rattle.std.proofs.lemmas.List.{append_assoc, append-nil, length-append}
use Rattle.plan.proofs.Fields.{counting_push}
use Rattle.plan.specs.Layout.{pair_place, width_for}
use Rattle.plan.specs.Packed.{bits_of, end_fields, field_bits, head_fields, number_bits, pair_fields, plan_fields, term_field, term_fields}
use Rattle.plan.specs.Plans.{broader_of, ends_of}
use Rattle.plan.specs.declared.shape.Plan.{Plan}
use Rattle.plan.proofs.Digits.{length_bits}

abbrev pub widths : List (ℕ × ℕ) → ℕ
widths [] = 0
widths (f ∷ fs) = f.0 + widths fs

pub length_fields : (fs : List (ℕ × ℕ)) → length (flat_map field_bits fs) ≡ widths fs
length_fields [] = refl
length_fields (f ∷ fs) = omega (arith, length-append (field_bits f) (flat_map field_bits fs), length_bits f.0 f.1, length_fields fs)

pub widths_append : (fs gs : List (ℕ × ℕ)) → widths (fs ++ gs) ≡ widths fs + widths gs
widths_append [] gs = omega arith
widths_append (f ∷ fs) gs = let h : widths (fs ++ gs) ≡ widths fs + widths gs = widths_append fs gs in omega arith

module _ (w : ℕ) (up : ℕ → ℕ) where
  pub terms_more : (j : ℕ) → term_fields w up (j + 1) ≡ term_fields w up j ++ ((w, up (1 + j)) ∷ [])
  terms_more j = map-range_with_len_more (term_field w up) 1 j (1 + j) refl

  pub widths_terms : (j : ℕ) → widths (term_fields w up j) ≡ j * w
  widths_terms zero = sym (zero-mul w)
  widths_terms (suc j) =
      let e = ap widths (ap (term_fields w up) (sym (add-one j)) ∙ terms_more j) in
      let f = widths_append (term_fields w up j) ((w, up (1 + j)) ∷ []) in
      let m : (j + 1) * w ≡ j * w + 1 * w = add-mul j 1 w in
      e ∙ f ∙ (let h = widths_terms j in let s : suc j ≡ j + 1 = omega arith in rw s (omega (arith, m, h, one-mul w)))

  pub term_bits_more : (t : ℕ) → 0 < t → flat_map field_bits (term_fields w up (t - 1)) ++ number_bits w (up t) ≡ flat_map field_bits (term_fields w up (t + 1 - 1))
  term_bits_more t pos =
      let j = t - 1 in
      let e : 1 + j ≡ t = omega arith in
      let f : j + 1 ≡ t + 1 - 1 = omega arith in
      ap (λ x. flat_map field_bits (term_fields w up j) ++ number_bits w (up x)) (sym e) ∙
      ap (λ xs. flat_map field_bits (term_fields w up j) ++ xs) (sym (append-nil (number_bits w (up (1 + j))))) ∙
      sym (flat_map-append field_bits (term_fields w up j) ((w, up (1 + j)) ∷ [])) ∙ ap (flat_map field_bits) (sym (terms_more j) ∙ ap (term_fields w up) f)

module _ (w : ℕ) (ends : ℕ → ℕ × ℕ) where
  pub ends_more : (q : ℕ) → end_fields w ends (q + 1) ≡ end_fields w ends q ++ pair_fields w ends q
  ends_more q =
      let e : 0 + q ≡ q = omega arith in
      ap (flat_map (pair_fields w ends)) (counting_push 0 q ∙ ap (λ k. range_with_len 0 q ++ (k ∷ [])) e) ∙ flat_map-append (pair_fields w ends) (range_with_len 0 q) (q ∷ [])

  pub widths_ends : (q : ℕ) → widths (end_fields w ends q) ≡ q * (2 * w)
  widths_ends zero = sym (zero-mul (2 * w))
  widths_ends (suc q) =
      let e = ap widths (ap (end_fields w ends) (sym (add-one q)) ∙ ends_more q) in
      let f = widths_append (end_fields w ends q) (pair_fields w ends q) in
      let m : (q + 1) * (2 * w) ≡ q * (2 * w) + 1 * (2 * w) = add-mul q 1 (2 * w) in
      e ∙ f ∙ (let h = widths_ends q in let s : suc q ≡ q + 1 = omega arith in rw s (omega (arith, m, h, one-mul (2 * w))))

  pub end_bits_more : (q : ℕ) → flat_map field_bits (end_fields w ends q) ++ number_bits w (ends q).0 ++ number_bits w (ends q).1 ≡ flat_map field_bits (end_fields w ends (q + 1))
  end_bits_more q =
      let a = number_bits w (ends q).0 in
      let b = number_bits w (ends q).1 in
      let before = flat_map field_bits (end_fields w ends q) in
      append_assoc before a b ∙ ap (λ xs. before ++ (a ++ xs)) (sym (append-nil b)) ∙
      sym (flat_map-append field_bits (end_fields w ends q) (pair_fields w ends q)) ∙ ap (flat_map field_bits) (sym (ends_more q))

pub head_bits : (n m k : ℕ) → number_bits 9 n ++ number_bits 9 m ++ number_bits 8 k ≡ flat_map field_bits (head_fields n m k)
head_bits n m k =
    append_assoc (number_bits 9 n) (number_bits 9 m) (number_bits 8 k) ∙ ap (λ xs. number_bits 9 n ++ (number_bits 9 m ++ xs)) (sym (append-nil (number_bits 8 k)))

-- the three parts of a plan's bits
pub plan_bits : (p : Plan) → flat_map field_bits (head_fields p.terms p.pairs p.budget) ++ flat_map field_bits (term_fields (width_for p.terms) (broader_of p) (p.terms - 1)) ++ flat_map field_bits (end_fields (width_for p.terms) (ends_of p) p.pairs) ≡ bits_of p
unfolding bits_of
plan_bits p =
    let h = head_fields p.terms p.pairs p.budget in
    let t = term_fields (width_for p.terms) (broader_of p) (p.terms - 1) in
    let e = end_fields (width_for p.terms) (ends_of p) p.pairs in
    append_assoc (flat_map field_bits h) (flat_map field_bits t) (flat_map field_bits e) ∙
    ap (λ xs. flat_map field_bits h ++ xs) (sym (flat_map-append field_bits t e)) ∙ sym (flat_map-append field_bits h (t ++ e))

pub plan_widths : (p : Plan) → widths (plan_fields p) ≡ pair_place p.terms p.pairs
plan_widths p =
    let w = width_for p.terms in
    let t = term_fields w (broader_of p) (p.terms - 1) in
    let e = end_fields w (ends_of p) p.pairs in
    omega (arith, widths_append (head_fields p.terms p.pairs p.budget) (t ++ e), widths_append t e, widths_terms w (broader_of p) (p.terms - 1), widths_ends w (ends_of p) p.pairs)

pub plan_length : (p : Plan) → length (bits_of p) ≡ pair_place p.terms p.pairs
unfolding bits_of
plan_length p = length_fields (plan_fields p) ∙ plan_widths p

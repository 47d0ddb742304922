-- Bytes that describe a plan are its packed bytes.
--     byte_field         a byte is the number in its eight bits
--     bytes_are          bytes are known by their bits and by how they end
--     described_packed   bytes that describe a plan are its packed bytes
use Rattle.std.proofs.Common.{◌≡◌, ℕ, zero, suc, ◌+◌, ◌-◌, ◌*◌, ◌/◌, ◌%◌, ◌^◌, ◌<◌, ◌≤◌, List, map, length, get_or, sym, ap, ◌∙◌, subst, ⊎_elim, mod-eq_of_lt, div-one, arith}
use Rattle.std.specs.List.{range_with_len}
use Rattle.std.proofs.lemmas.Nat.{mod-pow-add, shr-shr}
use Rattle.std.proofs.lemmas.List.FromFn.{get_or-map-range_with_len, length-map-range_with_len}
use Rattle.std.proofs.ByRecursion.{All-get_or}
use Rattle.std.proofs.lemmas.List.{ext_get_or, get_or_past}
use Rattle.std.proofs.lemmas.Bool.{cases_lt}
use Rattle.plan.specs.Bits.{bit_at, field_at, whole_bytes, Bytes, Filled}
use Rattle.plan.specs.Layout.{bits_in, broader_in, ends_in, pair_place, terms_in, Describes}
use Rattle.plan.specs.Packed.{bits_of, bytes_of, number_at, packed, plan_fields}
use Rattle.plan.specs.Plans.{broader_of}
use Rattle.plan.specs.declared.shape.Plan.{Plan}
use Rattle.plan.proofs.FieldLists.{plan_widths}
use Rattle.plan.proofs.Fields.{field_more, field_none}
use Rattle.plan.proofs.Holding.{holds_bits}
use Rattle.plan.proofs.Octets.{byte_of_bytes, length_bytes, number_more, number_none}
use Rattle.plan.proofs.Saying.{says_holds, Says}

module _ (bs : List ℕ) (k : ℕ) where
  -- the first bits of a byte
  first_bits : (w : ℕ) → w ≤ 8 → field_at bs (8 * k) w ≡ get_or bs k 0 / 2 ^ (8 - w) % 2 ^ w
  first_bits zero h = field_none bs (8 * k) ∙ sym (let r : get_or bs k 0 / 2 ^ 8 % 1 ≡ 0 = omega arith in r)
  first_bits (suc w) h =
      let byte = get_or bs k 0 in
      let x = byte / 2 ^ (8 - suc w) in
      let s : suc w ≡ w + 1 = omega arith in
      let e : 8 - suc w + 1 ≡ 8 - w = omega arith in
      let i : (8 * k + w) / 8 ≡ k = omega arith in
      let j : 7 - (8 * k + w) % 8 ≡ 8 - suc w = omega arith in
      let bit : bit_at bs (8 * k + w) ≡ x % 2 = ap (λ n. get_or bs n 0 / 2 ^ (7 - (8 * k + w) % 8) % 2) i ∙ ap (λ n. byte / 2 ^ n % 2) j in
      let half : byte / 2 ^ (8 - w) ≡ x / 2 = sym (shr-shr byte (8 - suc w) 1 ∙ ap (λ n. byte / 2 ^ n) e) in
      ap (field_at bs (8 * k)) s ∙ field_more bs (8 * k) w ∙ ap (λ n. n * 2 + bit_at bs (8 * k + w)) (first_bits w (omega arith) ∙ ap (λ n. n % 2 ^ w) half) ∙
      ap (λ n. (x / 2 % 2 ^ w) * 2 + n) bit ∙ sym (mod-pow-add x w 1) ∙ ap (λ n. x % 2 ^ n) (sym s)

  pub byte_field : get_or bs k 0 < 256 → field_at bs (8 * k) 8 ≡ get_or bs k 0
  byte_field small = first_bits 8 (omega arith) ∙ ap (λ n. n % 256) (div-one (get_or bs k 0)) ∙ mod-eq_of_lt small

number_field : (bs bits : List ℕ) (i w : ℕ) → ((j : ℕ) → j < w → bit_at bs (i + j) ≡ get_or bits (i + j) 0) → field_at bs i w ≡ number_at bits i w
number_field bs bits i zero same = field_none bs i ∙ sym (number_none bits i)
number_field bs bits i (suc w) same =
    let s : suc w ≡ w + 1 = omega arith in
    ap (field_at bs i) s ∙ field_more bs i w ∙ ap (λ n. n * 2 + bit_at bs (i + w)) (number_field bs bits i w (λ j h. same j (omega arith))) ∙
    ap (λ b. number_at bits i w * 2 + b) (same w (omega arith)) ∙ sym (number_more bits i w) ∙ ap (number_at bits i) (sym s)

pub bytes_are : (bs bits : List ℕ) (n : ℕ) → Bytes bs → map (bit_at bs) (range_with_len 0 n) ≡ bits → Filled bs n → whole_bytes n ≤ length bs → bs ≡ bytes_of bits
bytes_are bs bits n all e (zeros, short) long =
    let m : length bits ≡ n = sym (ap length e) ∙ length-map-range_with_len (bit_at bs) 0 n in
    let whole : whole_bytes (length bits) ≡ whole_bytes n = ap whole_bytes m in
    let at : (i : ℕ) → i < 8 * whole_bytes n → bit_at bs i ≡ get_or bits i 0 = λ i h.
    ⊎_elim
    (λ less. sym (get_or-map-range_with_len (bit_at bs) 0 n i i 0 less (omega arith)) ∙ ap (λ xs. get_or xs i 0) e)
    (λ past. zeros i past h ∙ sym (get_or_past bits i 0 (omega arith)))
    (cases_lt i n) in
    ext_get_or 0 bs (bytes_of bits) (omega (arith, length_bytes bits)) (λ k h.
    sym (byte_field bs k (All-get_or (λ b. b < 256) bs k 0 h all)) ∙ number_field bs bits (8 * k) 8 (λ j less. at (8 * k + j) (omega arith)) ∙ sym (byte_of_bytes bits k (omega arith)))

describes_says : (bs : List ℕ) (p : Plan) → Describes bs p → Says bs p
describes_says bs p d =
    let n = sym d.terms in
    let m = sym d.pairs in
    record {
      terms = n;
      pairs = m;
      budget = sym d.budget;
      broader = subst (λ k. (t : ℕ) → 0 < t → t < k → broader_in bs k t ≡ broader_of p t) n (λ t pos less. sym (d.broader t pos less));
      ends = λ q less. ap (λ k. ends_in bs k q) (sym n) ∙ sym (d.ends q (omega arith));
    }

pub described_packed : (bs : List ℕ) (p : Plan) → Bytes bs → Describes bs p → bs ≡ packed p
unfolding packed bits_of
described_packed bs p all d =
    let bits : pair_place p.terms p.pairs ≡ bits_in bs = ap (λ n. pair_place n p.pairs) d.terms ∙ ap (pair_place (terms_in bs)) d.pairs in
    let row = ap (λ n. map (bit_at bs) (range_with_len 0 n)) (sym (plan_widths p ∙ bits)) ∙ holds_bits bs 0 (plan_fields p) (says_holds bs p (describes_says bs p d)) in
    bytes_are bs (bits_of p) (bits_in bs) all row d.filled d.checked.0.0.1

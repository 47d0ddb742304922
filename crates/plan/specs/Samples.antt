-- Plans worked by hand, each with its bytes.
--     Sample          the numbers of a plan, and the bytes that it is to have
--     PacksAsShown    the layout gives those bytes
--     samples         seven terms in a tree with four pairs and budget 2; one term, no pair, budget 0
--     damaged         the second, with the last filling bit set
use Rattle.std.specs.Prelude.{◌≡◌, ℕ, List, [], ◌∷◌, slice_index, slice_index_or}
use Rattle.std.specs.List.{flat_map}
use Rattle.plan.specs.Packed.{bytes_of, field_bits, fields_of}

pub record Sample : Type 0 where
  pub terms : ℕ
  pub pairs : ℕ
  pub budget : ℕ
  -- by term, from term 0 on
  pub broader : List ℕ
  pub ends : List (ℕ × ℕ)
  pub bytes : List ℕ

abbrev pub PacksAsShown : Sample → Type 0
PacksAsShown s = bytes_of (flat_map field_bits (fields_of s.terms s.pairs s.budget (λ t. slice_index s.broader t) (λ q. slice_index_or s.ends q (0, 0)))) ≡ s.bytes

abbrev pub samples : List Sample
samples =
    record {
      terms = 7;
      pairs = 4;
      budget = 2;
      broader = 0 ∷ 0 ∷ 0 ∷ 1 ∷ 1 ∷ 2 ∷ 2 ∷ [];
      ends = (3, 4) ∷ (4, 5) ∷ (5, 6) ∷ (1, 3) ∷ [];
      bytes = 0x03 ∷ 0x81 ∷ 0x00 ∷ 0x80 ∷ 0x25 ∷ 0x27 ∷ 0x25 ∷ 0xB8 ∷ 0xB0 ∷ [];
    } ∷ record { terms = 1; pairs = 0; budget = 0; broader = 0 ∷ []; ends = []; bytes = 0x00 ∷ 0x80 ∷ 0x00 ∷ 0x00 ∷ [] } ∷ []

abbrev pub damaged : List ℕ
damaged = 0x00 ∷ 0x80 ∷ 0x00 ∷ 0x01 ∷ []

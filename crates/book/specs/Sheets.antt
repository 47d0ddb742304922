-- Tables with one bit for each pair and link: a row of four words of 64 bits for each pair.
--     bit_in ws q l       the bit of pair q and link l
--     bits_from f l n     the word whose n lowest bits are f of l, l + 1, ..
--     word_of f k         word k of the table that f fills
--     Computes r f        each answer of a closure to a pair and a link below 256 is f of them
--     Filled f ws         ws is that table
--     road_test p q l     link l is on the road of pair q of the plan p
--     first_test p q l    and on its first leg
--     leg_test p s q l    link l is on a leg of pair q
--     Ranked p rs         rs has the ranks of the plan's pairs, and 0 behind them
use Rattle.std.specs.Prelude.{◌≡◌, ℕ, zero, suc, ◌+◌, ◌*◌, ◌/◌, ◌%◌, ◌^◌, ◌<◌, Bool, not, ◌&&◌, List, slice_index}
use Rattle.std.specs.Int.{from_bool}
use Rattle.plan.specs.Plans.{broader_of, ends_of}
use Rattle.plan.specs.Tree.{among, way}
use Rattle.plan.specs.declared.shape.Plan.{Plan}
use Rattle.book.specs.Meaning.{on_road, rank_at}
use Rattle.book.specs.Told.{told}
use Rattle.book.specs.declared.leg.Leg.{Leg}
use Rattle.book.specs.declared.leg.Leg.TheVariants.{First, Second}

abbrev pub bit_in : List ℕ → ℕ → ℕ → ℕ
bit_in ws q l = slice_index ws (q * 4 + l / 64) / 2 ^ (l % 64) % 2

unfoldable pub bits_from : (ℕ → Bool) → ℕ → ℕ → ℕ
bits_from f l zero = 0
bits_from f l (suc n) = bits_from f (l + 1) n * 2 + from_bool (f l)

abbrev pub word_of : (ℕ → ℕ → Bool) → ℕ → ℕ
word_of f k = bits_from (f (k / 4)) (k % 4 * 64) 64

-- each answer of a closure at numbers below 256 is f of the numbers
abbrev pub Computes : (ℕ → ℕ → Bool → Type 0) → (ℕ → ℕ → Bool) → Type 0
Computes answers f = (q l : ℕ) (b : Bool) → q < 256 → l < 256 → answers q l b → b ≡ f q l

abbrev pub Filled : (ℕ → ℕ → Bool) → List ℕ → Type 0
Filled f ws = (k : ℕ) → k < 1024 → slice_index ws k ≡ word_of f k

abbrev pub road_test : Plan → ℕ → ℕ → Bool
road_test p q l = on_road (told p) l q

abbrev pub first_test : Plan → ℕ → ℕ → Bool
first_test p q l = on_road (told p) l q && among l (way (broader_of p) (ends_of p q).0)

abbrev pub Ranked : Plan → List ℕ → Type 0
Ranked p rs = (q : ℕ) → q < 256 → slice_index rs q ≡ rank_at (told p) q

-- a link of a leg, by the tables' tests
abbrev pub leg_test : Plan → Leg → ℕ → ℕ → Bool
leg_test p First q l = first_test p q l
leg_test p Second q l = road_test p q l && not (first_test p q l)

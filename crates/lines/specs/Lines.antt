-- The lines of a text. A line ends at a newline byte, which is no part of it, or at the end of the text; an end right
-- after a newline begins no further line.
--     lines_of bs         the lines of bs, in order
--     open_line b ls      b goes in front of the first line of ls
use Rattle.std.specs.Prelude.{ℕ, Bool, cond, List, [], ◌∷◌, ◌==◌}

abbrev pub newline : ℕ
newline = 10

abbrev pub is_newline : ℕ → Bool
is_newline b = b == newline

abbrev pub open_line : ℕ → List (List ℕ) → List (List ℕ)
open_line b [] = (b ∷ []) ∷ []
open_line b (l ∷ ls) = (b ∷ l) ∷ ls

abbrev pub lines_of : List ℕ → List (List ℕ)
lines_of [] = []
lines_of (b ∷ bs) = cond (is_newline b) ([] ∷ lines_of bs) (open_line b (lines_of bs))

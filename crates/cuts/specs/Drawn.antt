-- Instances that are written out, for examples.
--     drawn n roads    the links 1 to n are live, and a pair is open for each road, a list of its links
--     listed xs x      x is in the list
--     up_to n x        x is one of the numbers 1 to n
use Rattle.std.specs.Prelude.{ℕ, Bool, false, ◌&&◌, ◌||◌, List, [], ◌∷◌, length, ◌==◌, nat_le, nat_lt, slice_index_or}
use Rattle.cuts.specs.Instances.{Instance}

abbrev pub listed : List ℕ → ℕ → Bool
listed [] x = false
listed (y ∷ ys) x = x == y || listed ys x

abbrev pub up_to : ℕ → ℕ → Bool
up_to n x = nat_le 1 x && nat_le x n

abbrev pub drawn : ℕ → List (List ℕ) → Instance
drawn n roads = record {
  highest = n;
  pairs = length roads;
  live = up_to n;
  opened = λ p. nat_lt p (length roads);
  on = λ x p. (up_to n x && nat_lt p (length roads)) && listed (slice_index_or roads p []) x;
}

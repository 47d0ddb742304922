-- What the arrays of a run say.
--     held xs            the set that an array of marks has; a type of marks could not be seen as one, since no model's value is a
--                        function
--     numbered xs        the numbers of an array, 0 behind it
use Rattle.std.specs.Prelude.{ℕ, Bool, false, List, slice_index, slice_index_or}
use Rattle.cuts.specs.Links.{Links}
use Rattle.rough.specs.Run.{Gone}

abbrev pub held : List Bool → Links
held xs l = slice_index_or xs l false

abbrev pub numbered : List ℕ → ℕ → ℕ
numbered xs p = slice_index xs p

-- how far a run has come, by its marks and the pairs written down
abbrev pub gone_by : List Bool → List ℕ → Gone
gone_by xs ps = record { chosen = held xs; apart = ps }

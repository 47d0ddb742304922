-- What the marks of a tally become.
--     fresh k              nothing marked or entered, k left, open
--     weld_link l t        link l is welded
--     cut_link i l t       link l is cut, which lowers what is left by one and drops every pair whose road passes it
--     drop_pair r t        pair r is dropped
--     end_none t           the working ends as none
--     drop_where f n ds    each pair below n of which f is true is dropped
use Rattle.std.specs.Prelude.{ℕ, zero, suc, ◌-◌, Bool, true, false, cond, List, replicate, slice_set, None}
use Rattle.cuts.specs.Instances.{Instance}
use Rattle.working.specs.declared.tally.LinkMark.TheVariants.{Cut, Unmarked, Welded}
use Rattle.working.specs.declared.tally.State.TheVariants.{NoCut, Open}
use Rattle.working.specs.declared.tally.Tally.{Tally}

abbrev pub fresh : ℕ → Tally
fresh k = record { links = replicate 256 Unmarked; dropped = replicate 256 false; entries = replicate 256 None; left = k; state = Open }

abbrev pub drop_where : (ℕ → Bool) → ℕ → List Bool → List Bool
drop_where f zero ds = ds
drop_where f (suc n) ds = cond (f n) (slice_set (drop_where f n ds) n true) (drop_where f n ds)

abbrev pub weld_link : ℕ → Tally → Tally
weld_link l t = record { links = slice_set t.links l Welded; dropped = t.dropped; entries = t.entries; left = t.left; state = t.state }

abbrev pub cut_link : Instance → ℕ → Tally → Tally
cut_link i l t = record { links = slice_set t.links l Cut; dropped = drop_where (i.on l) i.pairs t.dropped; entries = t.entries; left = t.left - 1; state = t.state }

abbrev pub drop_pair : ℕ → Tally → Tally
drop_pair r t = record { links = t.links; dropped = slice_set t.dropped r true; entries = t.entries; left = t.left; state = t.state }

abbrev pub end_none : Tally → Tally
end_none t = record { links = t.links; dropped = t.dropped; entries = t.entries; left = t.left; state = NoCut }

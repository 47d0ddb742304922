-- A book under the marks of a tally.
--     unmarked t l      link l is neither welded nor cut
--     undropped t p     pair p has not been dropped
--     rest m t          what is left of a book: marked links are not live, dropped pairs are not open, legs lose their
--                       marked links, and the rest stays
use Rattle.std.specs.Prelude.{ℕ, Bool, true, false, not, ◌&&◌, filter, slice_index_or}
use Rattle.book.specs.Meaning.{Meaning}
use Rattle.working.specs.declared.tally.LinkMark.{LinkMark}
use Rattle.working.specs.declared.tally.LinkMark.TheVariants.{Cut, Unmarked, Welded}
use Rattle.working.specs.declared.tally.Tally.{Tally}

abbrev pub is_unmarked : LinkMark → Bool
is_unmarked Unmarked = true
is_unmarked Welded = false
is_unmarked Cut = false

abbrev pub unmarked : Tally → ℕ → Bool
unmarked t l = is_unmarked (slice_index_or t.links l Unmarked)

abbrev pub undropped : Tally → ℕ → Bool
undropped t p = not (slice_index_or t.dropped p false)

abbrev pub rest : Meaning → Tally → Meaning
rest m t = record {
  highest = m.highest;
  pairs = m.pairs;
  live = λ l. m.live l && unmarked t l;
  opened = λ p. m.opened p && undropped t p;
  rank = m.rank;
  first = λ p. filter (unmarked t) (m.first p);
  second = λ p. filter (unmarked t) (m.second p);
}

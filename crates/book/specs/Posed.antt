-- The instance that a book poses: what counts of its meaning for cuts.
--     posed m          the live links, the open pairs, and which link is on which road
--     lawful_sound     the instance of a lawful book is sound
use Rattle.std.specs.Prelude.{◌&&◌, ◌||◌}
use Rattle.std.proofs.lemmas.Bool.{and_parts}
use Rattle.cuts.specs.Instances.{Instance, Sound}
use Rattle.plan.specs.Tree.{among}
use Rattle.book.specs.Meaning.{Lawful, Meaning, on_road}

abbrev pub posed : Meaning → Instance
posed m = record {
  highest = m.highest;
  pairs = m.pairs;
  live = m.live;
  opened = m.opened;
  on = on_road m;
}

pub lawful_sound : (m : Meaning) → Lawful m → Sound (posed m)
lawful_sound m law = record {
  from_one = λ l e. (law.live_in l e).0;
  to_highest = λ l e. (law.live_in l e).1;
  numbered = law.opened_in;
  on_live = λ l p e. (and_parts (m.live l) (m.opened p && (among l (m.first p) || among l (m.second p))) e).0;
  on_open = λ l p e. (and_parts (m.opened p) (among l (m.first p) || among l (m.second p)) (and_parts (m.live l) (m.opened p && (among l (m.first p) || among l (m.second p))) e).1).0;
}

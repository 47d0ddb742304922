-- A pair with an empty road is separated by no cut.
--     empty_none      neither leg has a link, so no link is on the road
--     lowest_empty    the lowest such pair, and that there is no cut
use Rattle.std.proofs.Common.{◌≡◌, ℕ, true, ◌&&◌, Some, arith}
use Rattle.std.proofs.lemmas.Bool.{and_parts}
use Rattle.cuts.specs.Instances.{On, Open}
use Rattle.book.specs.Meaning.{Lawful, Meaning}
use Rattle.book.specs.Posed.{posed}
use Rattle.rough.proofs.Lowest.{lowest_some}
use Rattle.rough.proofs.Tops.{tops_meet}
use Rattle.rough.specs.Outcome.{empty_road, lowest, no_link}
use Rattle.rough.specs.Promise.{LowestEmpty}

module _ (m : Meaning) where
  pub empty_none : (p : ℕ) → empty_road m p ≡ true → (l : ℕ) → On (posed m) l p → ⊥
  empty_none p e l on = grind arith

  pub lowest_empty : Lawful m → (p : ℕ) → lowest (empty_road m) m.pairs ≡ Some p → LowestEmpty m p
  lowest_empty law p e =
      let (here, below) = lowest_some (empty_road m) m.pairs p e in
      let opened : Open (posed m) p = (and_parts (m.opened p) (no_link (m.first p) && no_link (m.second p)) here).0 in
      record {
        opened = opened;
        empty = empty_none p here;
        lower = λ q lt o. let (l, _, on) = tops_meet m law q o (below q lt) in (l, on);
        no_cut = λ s cut. let (l, _, on) = cut.meets p opened in empty_none p here l on;
      }

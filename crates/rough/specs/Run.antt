-- What a rough cut chooses and writes down.
--     Gone                 how far it has come: the links chosen, and the pairs written down as apart
--     top ls               the link at the top of a leg, if the leg has one
--     with_tops m s p      the links s and the tops of the two legs of p
--     take_up m g p        after the pair p: if no chosen link is on its road, it is written down and its tops are chosen
--     go_through m g ps    after the pairs ps, one after the other
--     gone m               after all open pairs in their order, from no link and no pair
--     rising s n           the numbers below n that s has, from the lowest up
--     links_of m           the links that a rough cut writes
--     apart_of m           the pairs that it writes, in the order written down
use Rattle.std.specs.Prelude.{ℕ, zero, suc, ◌+◌, false, cond, List, [], ◌∷◌, ◌++◌, ◌==◌}
use Rattle.cuts.specs.Links.{Links, none, union}
use Rattle.cuts.specs.Search.{meets}
use Rattle.book.specs.Meaning.{Meaning}
use Rattle.book.specs.Posed.{posed}
use Rattle.rough.specs.Order.{in_order}

pub record Gone : Type 0 where
  pub chosen : Links
  pub apart : List ℕ

abbrev pub top : List ℕ → Links
top [] x = false
top (y ∷ ys) x = x == y

abbrev pub with_tops : Meaning → Links → ℕ → Links
with_tops m s p = union (union s (top (m.first p))) (top (m.second p))

abbrev pub written_down : Meaning → Gone → ℕ → Gone
written_down m g p = record { chosen = with_tops m g.chosen p; apart = g.apart ++ (p ∷ []) }

abbrev pub take_up : Meaning → Gone → ℕ → Gone
take_up m g p = cond (meets (posed m) g.chosen p) g (written_down m g p)

abbrev pub go_through : Meaning → Gone → List ℕ → Gone
go_through m g [] = g
go_through m g (p ∷ ps) = go_through m (take_up m g p) ps

abbrev pub none_gone : Gone
none_gone = record { chosen = none; apart = [] }

abbrev pub gone : Meaning → Gone
gone m = go_through m none_gone (in_order m)

abbrev pub rising : Links → ℕ → List ℕ
rising s zero = []
rising s (suc n) = cond (s n) (rising s n ++ (n ∷ [])) (rising s n)

abbrev pub links_of : Meaning → List ℕ
links_of m = rising (gone m).chosen (m.highest + 1)

abbrev pub apart_of : Meaning → List ℕ
apart_of m = (gone m).apart

-- What a rough cut answers, and what the two lent slices hold then.
--     empty_road m p    p is open and neither of its legs has a link: no cut separates it
--     lowest f n        the lowest number below n that f has
--     answer m a b      the answer where the slice for links has a places and that for pairs b
--     roomy_answer m    the answer where both slices have room
--     laid r xs ys      a slice that held ys: the elements xs followed by what stood behind, or ys where r is a refusal
use Rattle.std.specs.List.{find, range_with_len}
use Rattle.std.specs.Prelude.{ℕ, Bool, true, false, cond, ◌&&◌, List, [], ◌∷◌, ◌++◌, length, drop, Some, None, Ok, Err, Option, Result, nat_lt}
use Rattle.book.specs.Meaning.{Meaning}
use Rattle.rough.specs.Run.{apart_of, links_of}
use Rattle.rough.specs.declared.fault.RoughFault.{RoughFault}
use Rattle.rough.specs.declared.fault.RoughFault.TheVariants.{EmptyRoad, LinksBuffer, PairsBuffer}

abbrev pub Counts : Type 0
Counts = Result (ℕ × ℕ) RoughFault

abbrev pub no_link : List ℕ → Bool
no_link [] = true
no_link (x ∷ xs) = false

abbrev pub empty_road : Meaning → ℕ → Bool
empty_road m p = m.opened p && (no_link (m.first p) && no_link (m.second p))

abbrev pub lowest : (ℕ → Bool) → ℕ → Option ℕ
lowest f n = find f (range_with_len 0 n)

-- the links ls and the pairs ps, where they fit
abbrev pub fitted : List ℕ → List ℕ → ℕ → ℕ → Counts
fitted ls ps a b =
    cond (nat_lt a (length ls)) (Err (LinksBuffer (length ls)))
    (cond (nat_lt b (length ps)) (Err (PairsBuffer (length ps))) (Ok (length ls, length ps)))

abbrev pub unless_empty : Option ℕ → Counts → Counts
unless_empty (Some p) r = Err (EmptyRoad p)
unless_empty None r = r

abbrev pub answer : Meaning → ℕ → ℕ → Counts
answer m a b = unless_empty (lowest (empty_road m) m.pairs) (fitted (links_of m) (apart_of m) a b)

abbrev pub roomy_answer : Meaning → Counts
roomy_answer m = unless_empty (lowest (empty_road m) m.pairs) (Ok (length (links_of m), length (apart_of m)))

abbrev pub laid : Counts → List ℕ → List ℕ → List ℕ
laid (Ok c) xs ys = xs ++ drop (length xs) ys
laid (Err e) xs ys = ys

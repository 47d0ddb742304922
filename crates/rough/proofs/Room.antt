-- How much room a rough cut needs.
--     few_apart     no more pairs are written down than there are
--     has_room      256 places for the links and as many for the pairs are enough
use Rattle.std.proofs.Common.{◌≡◌, ℕ, ◌+◌, ◌≤◌, cond, ltb, List, [], ◌∷◌, length, Ok, Err, ap, ◌∙◌, arith}
use Rattle.std.proofs.lemmas.Bool.{cond-false, le-ltb}
use Rattle.book.specs.Meaning.{Lawful, Meaning, rank_at}
use Rattle.rough.specs.Order.{earlier, in_order}
use Rattle.rough.specs.Outcome.{answer, empty_road, lowest, roomy_answer, unless_empty}
use Rattle.rough.specs.Run.{Gone, apart_of, go_through, gone, links_of, none_gone, take_up}
use Rattle.rough.specs.declared.fault.RoughFault.TheVariants.{LinksBuffer, PairsBuffer}
use Rattle.rough.proofs.Rising.{rising_short}
use Rattle.rough.proofs.Sorting.{length_sorted}
use Rattle.rough.proofs.Turns.{take_up_longer}

module _ (m : Meaning) where
  few_more : (g : Gone) (ps : List ℕ) → length (go_through m g ps).apart ≤ length g.apart + length ps
  few_more g [] = omega arith
  few_more g (p ∷ ps) = omega (arith, take_up_longer m g p, few_more (take_up m g p) ps)

  pub few_apart : length (apart_of m) ≤ m.pairs
  few_apart = omega (arith, few_more none_gone (in_order m), length_sorted (earlier (rank_at m)) m.opened m.pairs)

  module _ (law : Lawful m) (a b : ℕ) (h : 256 ≤ a) (k : 256 ≤ b) where
    pub has_room : answer m a b ≡ roomy_answer m
    has_room =
        let ls = links_of m in
        let ps = apart_of m in
        let x : length ls ≤ a = omega (arith, rising_short (gone m).chosen (m.highest + 1), law.few_links) in
        let y : length ps ≤ b = omega (arith, few_apart, law.few_pairs) in
        ap (unless_empty (lowest (empty_road m) m.pairs))
        (cond-false (ltb a (length ls)) (Err (LinksBuffer (length ls))) (cond (ltb b (length ps)) (Err (PairsBuffer (length ps))) (Ok (length ls, length ps))) (le-ltb a (length ls) x) ∙
        cond-false (ltb b (length ps)) (Err (PairsBuffer (length ps))) (Ok (length ls, length ps)) (le-ltb b (length ps) y))

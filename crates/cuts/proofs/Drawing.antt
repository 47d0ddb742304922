-- Instances that are written out are sound, and the search tells their fewest.
--     drawn_sound          an instance that is written out is sound
--     found, not_found     there is a cut within k, or none, as the search says
--     one_needed           the fewest is 1 if there is a cut of one link and none of no link
use Rattle.std.proofs.Common.{◌≡◌, ℕ, true, false, List, arith}
use Rattle.std.proofs.lemmas.Bool.Decides.{not_from_Decides}
use Rattle.cuts.proofs.LeastCut.{fewest_above}
use Rattle.cuts.proofs.Searching.{has_cut_decided}
use Rattle.cuts.specs.Drawn.{drawn}
use Rattle.cuts.specs.Instances.{Instance, Sound, Fewest, HasCut}
use Rattle.cuts.specs.Search.{has_cut}

pub drawn_sound : (n : ℕ) (roads : List (List ℕ)) → Sound (drawn n roads)
drawn_sound n roads = grind arith

module _ (i : Instance) (ok : Sound i) where
  pub found : (k : ℕ) → has_cut i k ≡ true → HasCut i k
  found k = (has_cut_decided i ok k).0

  pub not_found : (k : ℕ) → has_cut i k ≡ false → HasCut i k → ⊥
  not_found k = not_from_Decides (has_cut i k) (has_cut_decided i ok k)

  pub one_needed : has_cut i 1 ≡ true → has_cut i 0 ≡ false → Fewest i 1
  one_needed some lacks = fewest_above i 0 (found 1 some) (not_found 0 lacks)

-- The wrong rules are wrong: the tests of the right ones and the search for a cut compute on the small instances.
--     changed    what changes the sum of the links cut and the fewest is no reduction
use Rattle.std.proofs.Common.{◌≡◌, ℕ, ◌+◌, [], ◌∷◌, refl, arith}
use Rattle.cuts.proofs.Drawing.{drawn_sound, found, not_found, one_needed}
use Rattle.cuts.proofs.LeastCut.{fewest_unique, fewest_zero, no_fewest}
use Rattle.cuts.proofs.Remaining.{remain_sound}
use Rattle.cuts.proofs.RuleTests.{crowd_decided, dominated_link_decided, dominated_pair_decided}
use Rattle.cuts.proofs.Faithfulness.{reductions_are_faithful}
use Rattle.cuts.specs.After.{but_for, cut_link, drop_pair, every, off_road, weld_link}
use Rattle.cuts.specs.Instances.{Fewest, HasCut, Instance, Sound, size}
use Rattle.cuts.specs.Links.{Links, none, one}
use Rattle.cuts.specs.Mistakes.{CutLooseIsWrong, DropBothIsWrong, LooseLink, TwinLinks, TwinPairs, WeldBothIsWrong, side_road, two_links, two_pairs}
use Rattle.cuts.specs.Reduces.{Reduces}

changed :
    (i : Instance) → Sound i → (j : Instance) (b k f g : ℕ) (c : Links) → HasCut i b → Fewest i f → Fewest j g →
    (size i c + g ≡ f → ⊥) → Reduces i b j k c → ⊥
changed i ok j b k f g c has whole rest differs red =
    let (m, n, same) = (reductions_are_faithful i ok b j k c red).fewest has in
    differs (omega (arith, same.sum, fewest_unique i m f same.whole whole, fewest_unique j n g same.rest rest))

two_links_sound : Sound two_links
two_links_sound = drawn_sound 2 ((1 ∷ 2 ∷ []) ∷ [])

two_pairs_sound : Sound two_pairs
two_pairs_sound = drawn_sound 1 ((1 ∷ []) ∷ (1 ∷ []) ∷ [])

side_road_sound : Sound side_road
side_road_sound = drawn_sound 2 ((1 ∷ 2 ∷ []) ∷ (1 ∷ 2 ∷ []) ∷ (2 ∷ []) ∷ [])

pub weld_both_is_wrong : WeldBothIsWrong
weld_both_is_wrong =
    let ok = two_links_sound in
    let rest = weld_link (weld_link two_links 1) 2 in
    let rest-sound = remain_sound (weld_link two_links 1) (but_for 2) every (remain_sound two_links (but_for 1) every ok) in
    let lost = no_fewest rest (not_found rest rest-sound 2 refl) in
    let twins : TwinLinks two_links 1 2 = record { there = (dominated_link_decided two_links ok 1 2).0 refl; back = (dominated_link_decided two_links ok 2 1).0 refl } in
    record {
      twins = twins;
      whole = one_needed two_links ok refl refl;
      rest = lost;
      refuted = λ claim.
          let (f, g, same) = (reductions_are_faithful two_links ok 1 rest 1 none (claim two_links ok 1 1 2 twins)).fewest (found two_links ok 1 refl) in
          lost g same.rest;
    }

pub drop_both_is_wrong : DropBothIsWrong
drop_both_is_wrong =
    let ok = two_pairs_sound in
    let rest = drop_pair (drop_pair two_pairs 0) 1 in
    let rest-sound = remain_sound (drop_pair two_pairs 0) every (but_for 1) (remain_sound two_pairs every (but_for 0) ok) in
    let whole = one_needed two_pairs ok refl refl in
    let nothing = fewest_zero rest (found rest rest-sound 0 refl) in
    let twins : TwinPairs two_pairs 0 1 = record { there = (dominated_pair_decided two_pairs ok 0 1).0 refl; back = (dominated_pair_decided two_pairs ok 1 0).0 refl } in
    record {
      twins = twins;
      whole = whole;
      rest = nothing;
      refuted = λ claim. changed two_pairs ok rest 1 1 1 0 none (found two_pairs ok 1 refl) whole nothing (λ e. omega arith) (claim two_pairs ok 1 0 1 twins);
    }

pub cut_loose_is_wrong : CutLooseIsWrong
cut_loose_is_wrong =
    let ok = side_road_sound in
    let rest = cut_link side_road 1 in
    let whole = one_needed side_road ok refl refl in
    let more = one_needed rest (remain_sound side_road (but_for 1) (off_road side_road 1) ok) refl refl in
    let loose : LooseLink side_road 1 1 (0 ∷ 1 ∷ []) =
    record { live = refl; crowd = (crowd_decided side_road ok 1 (0 ∷ 1 ∷ [])).0 refl; through = (refl, (refl, tt)) } in
    record {
      loose = loose;
      whole = whole;
      rest = more;
      refuted = λ claim. changed side_road ok rest 1 0 1 1 (one 1) (found side_road ok 1 refl) whole more (λ e. omega arith)
          (claim side_road ok 1 1 (0 ∷ 1 ∷ []) (omega arith) loose);
    }

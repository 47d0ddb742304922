-- What it is to lose nothing.
--     Reduces i b j k c    of the instance i with the budget b there remain j with k left, the links c being cut:
--                          whoever goes on with j and k, in place of i and b, loses nothing
-- Every step of every rule is such a reduction, and two in a row are one.
use Rattle.std.specs.Prelude.{◌≡◌, ℕ, ◌+◌, ◌≤◌}
use Rattle.cuts.specs.Instances.{Instance, Live, Sound, Cut, CutWithin, NoEmptyRoad, size}
use Rattle.cuts.specs.Links.{Links, In, union}

pub record Reduces (i : Instance) (b : ℕ) (j : Instance) (k : ℕ) (c : Links) : Type 0 where
  -- what remains is sound, and its links keep their numbers
  pub sound : Sound j
  pub numbering : j.highest ≡ i.highest
  -- the links cut and what is left make up the budget
  pub spent : size i c + k ≡ b
  -- the links cut were live and are not live any more; no link became live
  pub taken : (l : ℕ) → In c l → Live i l
  pub gone : (l : ℕ) → In c l → Live j l → ⊥
  pub fewer : (l : ℕ) → Live j l → Live i l
  -- no open road became empty
  pub roads : NoEmptyRoad i → NoEmptyRoad j
  -- back: a cut of what remains within what is left, with the links cut, is a cut of what was within the budget
  pub back : (s : Links) → CutWithin j k s → CutWithin i b (union c s)
  -- on: a cut of what was within the budget gives one of what remains that is smaller by the links cut
  pub onward : (s : Links) → CutWithin i b s → (t : Links) × Cut j t × (size i c + size j t ≤ size i s)

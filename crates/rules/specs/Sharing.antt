-- Which links several pairs may have in common, and whether they have no others.
--     may_share i c x       pairs that may have c in common may share the link x
--     share_only i c p q    two pairs share no other links
--     towards f q p         f of p and q, as a test of p
use Rattle.std.specs.Prelude.{ℕ, Bool}
use Rattle.cuts.specs.Instances.{Instance}
use Rattle.cuts.specs.Tests.{is_link, never, on_road, shares}
use Rattle.rules.specs.declared.common.Common.{Common}
use Rattle.rules.specs.declared.common.Common.TheVariants.{Link, Nothing, RoadOf}

abbrev pub may_share : Instance → Common → ℕ → Bool
may_share i (RoadOf r) = on_road i r
may_share i (Link l) = is_link l
may_share i Nothing = never

abbrev pub share_only : Instance → Common → ℕ → ℕ → Bool
share_only i c = shares i (may_share i c)

abbrev pub towards : (ℕ → ℕ → Bool) → ℕ → ℕ → Bool
towards f q p = f p q

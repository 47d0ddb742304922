-- Whether there is a cut of at most k links, by trying every set of links.
--     has_cut i k     there is one
--     some_set f n    f is true of some set of links from 1 to n
--     is_cut i s      s, a set of links of the instance, is a cut
--     meets i s p     some link of s is on the road of p
use Rattle.std.specs.Prelude.{ℕ, zero, suc, ◌+◌, Bool, ◌&&◌, ◌||◌, nat_le}
use Rattle.std.specs.List.{list_any, range_with_len}
use Rattle.cuts.specs.Instances.{Instance, size}
use Rattle.cuts.specs.Links.{Links, none, one, union}
use Rattle.cuts.specs.Tests.{all_links, all_pairs, implies}

abbrev pub meets_by : Instance → Links → ℕ → ℕ → Bool
meets_by i s p x = s x && i.on x p

abbrev pub meets : Instance → Links → ℕ → Bool
meets i s p = list_any (meets_by i s p) (range_with_len 0 (i.highest + 1))

abbrev pub met_if_open : Instance → Links → ℕ → Bool
met_if_open i s p = implies (i.opened p) (meets i s p)

abbrev pub live_if_in : Instance → Links → ℕ → Bool
live_if_in i s x = implies (s x) (i.live x)

abbrev pub is_cut : Instance → Links → Bool
is_cut i s = all_links i (live_if_in i s) && all_pairs i (met_if_open i s)

abbrev pub is_cut_within : Instance → ℕ → Links → Bool
is_cut_within i k s = is_cut i s && nat_le (size i s) k

-- f, asked of a set with l added
abbrev pub with_link : (Links → Bool) → ℕ → Links → Bool
with_link f l s = f (union (one l) s)

abbrev pub some_set : (Links → Bool) → ℕ → Bool
some_set f zero = f none
some_set f (suc n) = some_set f n || some_set (with_link f (suc n)) n

abbrev pub has_cut : Instance → ℕ → Bool
has_cut i k = some_set (is_cut_within i k) i.highest

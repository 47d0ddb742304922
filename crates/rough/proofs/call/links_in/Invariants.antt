use Rattle.std.proofs.Common.{◌≡◌}
use Rattle.rough.specs.Arrays.{held}
use Rattle.rough.specs.Run.{rising}
use Rattle.rough.proofs.call.links_in.Given as goal

abbrev pub invariant-loop-link : goal.invariant-loop-link
invariant-loop-link l = l.links.items ≡ rising (held l.chosen) l.link

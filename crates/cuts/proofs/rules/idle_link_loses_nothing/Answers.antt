use Rattle.cuts.proofs.Welding.{idle_link_reduces}
use Rattle.cuts.proofs.rules.idle_link_loses_nothing.Goals as goal

pub returns : goal.returns
returns c = idle_link_reduces

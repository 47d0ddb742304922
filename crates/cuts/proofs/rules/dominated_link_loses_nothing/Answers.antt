use Rattle.cuts.proofs.Welding.{dominated_link_reduces}
use Rattle.cuts.proofs.rules.dominated_link_loses_nothing.Goals as goal

pub returns : goal.returns
returns c = dominated_link_reduces

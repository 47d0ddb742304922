use Rattle.cuts.proofs.Dropping.{dominated_pair_reduces}
use Rattle.cuts.proofs.rules.dominated_pair_loses_nothing.Goals as goal

pub returns : goal.returns
returns c = dominated_pair_reduces

use Rattle.cuts.proofs.Cutting.{overloaded_link_reduces}
use Rattle.cuts.proofs.rules.overloaded_link_loses_nothing.Goals as goal

pub returns : goal.returns
returns c = overloaded_link_reduces

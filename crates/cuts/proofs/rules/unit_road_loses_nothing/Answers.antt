use Rattle.cuts.proofs.Cutting.{unit_road_reduces}
use Rattle.cuts.proofs.rules.unit_road_loses_nothing.Goals as goal

pub returns : goal.returns
returns c = unit_road_reduces

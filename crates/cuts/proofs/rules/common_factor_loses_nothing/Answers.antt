use Rattle.cuts.proofs.CommonFactor.{common_factor_reduces}
use Rattle.cuts.proofs.rules.common_factor_loses_nothing.Goals as goal

pub returns : goal.returns
returns c = common_factor_reduces

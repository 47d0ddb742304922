use Rattle.cuts.proofs.Composing.{reductions_compose}
use Rattle.cuts.proofs.runs.reductions_compose.Goals as goal

pub returns : goal.returns
returns c = reductions_compose

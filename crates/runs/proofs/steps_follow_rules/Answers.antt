use Rattle.runs.proofs.Following.{follow}
use Rattle.runs.proofs.steps_follow_rules.Goals as goal

pub returns : goal.returns
returns c = λ m law t u whole s e. follow m law t u whole s e

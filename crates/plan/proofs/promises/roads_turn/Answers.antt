use Rattle.plan.proofs.Turns.{turn_some, turned}
use Rattle.plan.proofs.promises.roads_turn.Goals as goal

pub returns : goal.returns
returns c = λ p a b. (let f = turn_some p a b in (f.0, f.1), turned p a b)

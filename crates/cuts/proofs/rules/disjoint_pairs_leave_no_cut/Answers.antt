use Rattle.cuts.proofs.Stepping.{disjoint_no_cut}
use Rattle.cuts.proofs.rules.disjoint_pairs_leave_no_cut.Goals as goal

pub returns : goal.returns
returns c = disjoint_no_cut

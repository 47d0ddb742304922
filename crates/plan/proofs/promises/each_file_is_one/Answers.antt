use Rattle.plan.proofs.Alone.{agrees, not_both}
use Rattle.plan.proofs.Total.{read_total}
use Rattle.plan.proofs.Unique.{described_once}
use Rattle.plan.proofs.promises.each_file_is_one.Goals as goal

pub returns : goal.returns
returns c = λ bs. record {
  total = read_total bs;
  apart = not_both bs;
  plan = described_once bs;
  refusal = agrees bs;
}

use Rattle.std.proofs.Common.{rules, arith}
use Rattle.book.specs.Meaning.{rank_at}
use Rattle.book.specs.Told.{told, told_lawful}
use Rattle.book.proofs.Arrays.{asked_each, made_at}
use Rattle.book.proofs.Limits.{rank_low}
use Rattle.book.proofs.filling.fill_ranks.Goals as goal

pub from_fn-requires : goal.from_fn-requires
from_fn-requires c =
    let p = c.args.book.now.plan.now in
    (omega arith, asked_each 256 _ (λ i q r. search rules) (λ i less. let low = rank_low (told p) (told_lawful p) i in search (rules, low)))

pub returns : goal.returns
returns c = λ q less. made_at _ _ (rank_at (told c.args.book.now.plan.now)) c.from_fn.result 256 (λ i y f' below call. search rules) c.from_fn.ensures.items q 0 less

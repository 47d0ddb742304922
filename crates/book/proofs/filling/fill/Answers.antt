use Rattle.std.proofs.Common.{rules}
use Rattle.book.specs.Sheets.{word_of}
use Rattle.book.proofs.Arrays.{made_at}
use Rattle.book.proofs.filling.fill.Goals as goal

pub returns : goal.returns
returns g c = λ f computes k less. made_at _ _ (word_of f) c.from_fn.result 1024 (λ i y f' below call. search rules) c.from_fn.ensures.items k 0 less

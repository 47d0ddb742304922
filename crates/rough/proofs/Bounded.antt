-- From 256 on a lawful book has nothing.
--     none_open      no pair is open
--     none_ranked    and none has a rank
use Rattle.std.proofs.Common.{◌≡◌, ℕ, ◌≤◌, false, ⊎_elim, arith}
use Rattle.std.proofs.lemmas.Bool.{cases_Bool, cond-false}
use Rattle.book.specs.Meaning.{Lawful, Meaning, rank_at}
use Rattle.book.proofs.Limits.{open_below}

module _ (m : Meaning) (law : Lawful m) where
  pub none_open : (p : ℕ) → 256 ≤ p → m.opened p ≡ false
  none_open p h = ⊎_elim (λ e. let lt = open_below m law p e in absurd (omega arith)) (λ e. e) (cases_Bool (m.opened p))

  pub none_ranked : (p : ℕ) → 256 ≤ p → rank_at m p ≡ 0
  none_ranked p h = cond-false (m.opened p) (m.rank p) 0 (none_open p h)

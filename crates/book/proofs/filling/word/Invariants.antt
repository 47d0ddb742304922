use Rattle.std.proofs.Common.{◌≡◌, ℕ, ◌+◌, ◌-◌, ◌*◌, ◌/◌, ◌%◌, ◌^◌, ◌<◌, Bool}
use Rattle.book.specs.Sheets.{Computes, bits_from}
use Rattle.book.proofs.filling.word.Given as goal

abbrev pub invariant-loop-link : goal.invariant-loop-link
invariant-loop-link g l =
    (l.word < 2 ^ (64 - l.link)) ×
    ((f : ℕ → ℕ → Bool) → Computes (goal.F-post g l.test) f → l.word ≡ bits_from (f (l.k / 4)) (l.k % 4 * 64 + l.link) (64 - l.link))

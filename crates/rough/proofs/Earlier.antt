-- The order by falling rank and rising number is total.
--     earlier_decided    the test decides the order
--     earlier_not        of two numbers not both come before the other
--     earlier_other      and one of them does, if they are not the same
--     earlier_through    what comes before comes before all that comes behind
use Rattle.std.proofs.Common.{◌≡◌, ℕ, ◌<◌, true, false, ◌⊎◌, Decides, arith}
use Rattle.rough.specs.Order.{earlier}

module _ (r : ℕ → ℕ) where
  abbrev pub Earlier : ℕ → ℕ → Type 0
  Earlier p q = (r q < r p) ⊎ ((r p ≡ r q) × (p < q))

  pub earlier_decided : (p q : ℕ) → Decides (earlier r p q) (Earlier p q)
  earlier_decided p q = (λ e. grind arith, λ e. grind arith)

  pub earlier_not : (p q : ℕ) → earlier r p q ≡ true → earlier r q p ≡ false
  earlier_not p q e = grind arith

  pub earlier_other : (p q : ℕ) → (p ≡ q → ⊥) → earlier r p q ≡ false → earlier r q p ≡ true
  earlier_other p q ne e = grind arith

  through : (o p q : ℕ) → Earlier o p → Earlier p q → Earlier o q
  through o p q e f = grind arith

  pub earlier_through : (o p q : ℕ) → earlier r o p ≡ true → earlier r p q ≡ true → earlier r o q ≡ true
  earlier_through o p q e f = (earlier_decided o q).1 (through o p q ((earlier_decided o p).0 e) ((earlier_decided p q).0 f))

-- The open pairs of a lawful book stand in order in one way.
--     in_order_lem    the list in_order has just the open pairs, each before those behind it
--     one_order       and so has no other list
use Rattle.std.proofs.Common.{◌≡◌, ℕ, ◌<◌, true, List}
use Rattle.std.proofs.ByRecursion.{All-weaker}
use Rattle.cuts.proofs.Bound.{pairwise_weaker}
use Rattle.book.specs.Meaning.{Lawful, Meaning, rank_at}
use Rattle.rough.proofs.Earlier.{earlier_decided, earlier_not, earlier_other, earlier_through}
use Rattle.rough.proofs.Sorting.{all_sorted, among_sorted, pairwise_sorted, sorted_only}
use Rattle.rough.specs.Order.{Before, InOrder, earlier, in_order}
use Rattle.rough.specs.Promise.{OneOrder}

module _ (m : Meaning) (law : Lawful m) where
  abbrev Ahead : ℕ → ℕ → Type 0
  Ahead p q = earlier (rank_at m) p q ≡ true

  pub in_order_lem : InOrder m (in_order m)
  in_order_lem =
      let r = rank_at m in
      record {
        each_before = pairwise_weaker Ahead (Before m) (λ p q. (earlier_decided r p q).0) (in_order m)
            (pairwise_sorted (earlier r) (earlier_not r) (earlier_other r) (earlier_through r) m.opened m.pairs);
        only_open = all_sorted (earlier r) (λ p. m.opened p ≡ true) m.opened m.pairs (λ p _ e. e);
        every_open = λ p e. among_sorted (earlier r) m.opened m.pairs p (law.opened_in p e) e;
      }

  only_in_order : (ps : List ℕ) → InOrder m ps → ps ≡ in_order m
  only_in_order ps o =
      let r = rank_at m in
      sorted_only (earlier r) (earlier_not r) (earlier_other r) (earlier_through r) m.opened m.pairs ps
      (pairwise_weaker (Before m) Ahead (λ p q. (earlier_decided r p q).1) ps o.each_before)
      (All-weaker (λ p. m.opened p ≡ true) (λ p. (p < m.pairs) × (m.opened p ≡ true)) (λ p e. (law.opened_in p e, e)) ps o.only_open)
      (λ p _ e. o.every_open p e)

  pub one_order : OneOrder m
  one_order = (in_order_lem, only_in_order)

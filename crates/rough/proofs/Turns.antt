-- One turn through the pairs that are left, by the arrays.
--     same_gone        what has the same links and pairs has come as far
--     taken_up         a turn, by what it does to the links and to the pairs
--     take_up_longer   a turn writes at most one pair down
--     first_order      at first the pairs left are the open ones in order
--     next_turn        the first of the pairs left, and what is left behind it
use Rattle.std.proofs.Common.{◌≡◌, ℕ, ◌+◌, ◌<◌, ◌≤◌, Bool, true, false, cond, List, [], ◌∷◌, ◌++◌, length, set, Some, sym, ap, ◌∙◌, arith}
use Rattle.std.proofs.lemmas.List.{length_push}
use Rattle.std.proofs.lemmas.Bool.{cond_both}
use Rattle.cuts.specs.Search.{meets}
use Rattle.book.specs.Meaning.{Lawful, Meaning, rank_at}
use Rattle.book.specs.Posed.{posed}
use Rattle.rough.proofs.Earlier.{earlier_not, earlier_other, earlier_through}
use Rattle.rough.proofs.Marking.{held_less}
use Rattle.rough.proofs.Sorting.{sorted_next}
use Rattle.rough.specs.Arrays.{held, numbered}
use Rattle.rough.specs.Order.{earlier, first_of, in_order, sorted}
use Rattle.rough.specs.Run.{Gone, take_up, with_tops, written_down}

pub same_gone : (g h : Gone) → g.chosen ≡ h.chosen → g.apart ≡ h.apart → g ≡ h
same_gone g h e f = λ z. record { chosen = e z; apart = f z }

-- the links and the pairs after a turn, apart from each other
pub taken_up :
    (m : Meaning) (g h : Gone) (p : ℕ) → h.chosen ≡ cond (meets (posed m) g.chosen p) g.chosen (with_tops m g.chosen p) →
    h.apart ≡ cond (meets (posed m) g.chosen p) g.apart (g.apart ++ (p ∷ [])) → h ≡ take_up m g p
taken_up m g h p e f = grind arith

pub take_up_longer : (m : Meaning) (g : Gone) (p : ℕ) → length (take_up m g p).apart ≤ length g.apart + 1
take_up_longer m g p =
    cond_both (meets (posed m) g.chosen p) g (written_down m g p) (λ h. length h.apart ≤ length g.apart + 1)
    (λ _. omega arith)
    (λ _. omega (arith, length_push g.apart p))

pub first_order :
    (m : Meaning) (ranks : List ℕ) (left : List Bool) → ((p : ℕ) → numbered ranks p ≡ rank_at m p) → ((p : ℕ) → held left p ≡ m.opened p) →
    sorted (earlier (numbered ranks)) (held left) m.pairs ≡ in_order m
first_order m ranks left e f = grind arith

pub next_turn :
    (m : Meaning) → Lawful m → (ranks : List ℕ) (left : List Bool) (n p : ℕ) → n ≡ m.pairs → length left ≡ 256 →
    Some p ≡ first_of (earlier (numbered ranks)) (held left) n →
    (p < 256) × (held left p ≡ true) ×
    (sorted (earlier (numbered ranks)) (held left) n ≡ p ∷ sorted (earlier (numbered ranks)) (held (set left p false)) n)
next_turn m law ranks left n p all long e =
    let r = numbered ranks in
    let (lt, here, is) = sorted_next (earlier r) (earlier_not r) (earlier_other r) (earlier_through r) (held left) n p (sym e) in
    let low : p < 256 = omega (arith, law.few_pairs) in
    (low, here, is ∙ ap (λ s. p ∷ sorted (earlier r) s n) (sym (held_less left p (omega arith))))

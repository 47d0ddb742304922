-- The fewest links of a cut: where there is a cut there is a fewest, and it is one number.
--     fewest_found     if there is a cut within k, there is a fewest, of at most k links
--     fewest_unique    two numbers that are the fewest are equal
--     fewest_zero      a cut of no link is the fewest
--     fewest_above     a cut within k + 1 and none within k make k + 1 the fewest
--     no_fewest        where not even all links make a cut there is no fewest
use Rattle.std.proofs.Common.{◌≡◌, ℕ, zero, suc, ◌≤◌, ⊎_elim, zero-le, arith}
use Rattle.std.proofs.lemmas.Bool.{cases_Bool}
use Rattle.std.proofs.lemmas.Bool.Decides.{not_from_Decides}
use Rattle.cuts.proofs.Counting.{count_bounded}
use Rattle.cuts.proofs.Searching.{has_cut_decided}
use Rattle.cuts.specs.Instances.{Instance, Sound, HasCut, Fewest}
use Rattle.cuts.specs.Search.{has_cut}

pub fewest_above : (i : Instance) (k : ℕ) → HasCut i (suc k) → (HasCut i k → ⊥) → Fewest i (suc k)
fewest_above i k has lacks = grind arith

pub fewest_zero : (i : Instance) → HasCut i 0 → Fewest i 0
fewest_zero i (s, w) = record { attained = (s, w.cut, omega (arith, w.small)); least = λ t cut. zero-le }

pub no_fewest : (i : Instance) → (HasCut i i.highest → ⊥) → (n : ℕ) → Fewest i n → ⊥
no_fewest i lacks n few =
    let (s, s-cut, s-size) = few.attained in
    lacks (s, record { cut = s-cut; small = count_bounded s i.highest })

pub fewest_found : (i : Instance) → Sound i → (k : ℕ) → HasCut i k → (n : ℕ) × Fewest i n × (n ≤ k)
fewest_found i ok zero has = (0, fewest_zero i has, zero-le)
fewest_found i ok (suc k) has =
    ⊎_elim
    (λ here. let (n, few, le) = fewest_found i ok k ((has_cut_decided i ok k).0 here) in (n, few, omega arith))
    (λ lacks. (suc k, fewest_above i k has (not_from_Decides (has_cut i k) (has_cut_decided i ok k) lacks), omega arith))
    (cases_Bool (has_cut i k))

pub fewest_unique : (i : Instance) (m n : ℕ) → Fewest i m → Fewest i n → m ≡ n
fewest_unique i m n a b = grind arith

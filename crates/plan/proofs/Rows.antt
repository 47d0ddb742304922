-- An array of 256 places that is filled from place `low` on, one place after the other.
--     Written f d low i xs    the places from low to i hold what f gives; all others hold d
--     written_none            nothing is written at the start
--     written_more            one place more
--     rooted_from             a filled array of smaller terms roots a tree
--     paired_from             a filled array of ordered pairs is one of pairs
--     unpaired_from           and the places behind them are zero
--     tree_more, pairs_more   one term, one pair more has passed its check
use Rattle.std.proofs.Common.{◌≡◌, ℕ, ◌+◌, ◌<◌, ◌≤◌, ◌≢◌, List, length, get_or, set, replicate, sym, ap, ◌∙◌, subst, ⊎_elim, arith}
use Rattle.std.proofs.lemmas.List.{get_or-set_other, get_or-set_same, length-replicate, length-set}
use Rattle.std.proofs.lemmas.Bool.{cases_eq}
use Rattle.plan.specs.Layout.{broader_in, ends_in, TreeBelow, PairsBelow}
use Rattle.plan.specs.Shape.{Ordered, Paired, Rooted, Unpaired}
use Rattle.plan.proofs.Blank.{get_d_blank}

pub record Written {X : Type 0} (f : ℕ → X) (d : X) (low i : ℕ) (xs : List X) : Type 0 where
  pub long : length xs ≡ 256
  pub here : (u : ℕ) → low ≤ u → u < i → get_or xs u d ≡ f u
  pub past : (u : ℕ) → i ≤ u → get_or xs u d ≡ d
  pub before : (u : ℕ) → u < low → get_or xs u d ≡ d

module _ {X : Type 0} (f : ℕ → X) (d : X) (low : ℕ) where
  pub written_none : Written f d low low (replicate 256 d)
  written_none = record {
    long = length-replicate 256 d;
    here = λ u l h. absurd (omega arith);
    past = λ u _. get_d_blank 256 u d;
    before = λ u _. get_d_blank 256 u d;
  }

  pub written_more : {i j : ℕ} {xs : List X} {v : X} → Written f d low i xs → low ≤ i → i < 256 → j ≡ i → v ≡ f i → Written f d low (i + 1) (set xs j v)
  written_more {i} {j} {xs} {v} w above fits at is =
      let other : (u : ℕ) → u ≢ i → get_or (set xs i v) u d ≡ get_or xs u d = λ u ne. get_or-set_other xs i u v d ne in
      rw at (record {
        long = length-set xs i v ∙ w.long;
        here = λ u l h. ⊎_elim
            (λ e. subst (λ (k : ℕ). get_or (set xs i v) k d ≡ f k) (sym e) (get_or-set_same xs i v d (omega (arith, w.long)) ∙ is))
            (λ ne. other u ne ∙ w.here u l (omega (arith, ne)))
            (cases_eq u i);
        past = λ u l. other u (λ e. omega arith) ∙ w.past u (omega arith);
        before = λ u l. other u (λ e. omega arith) ∙ w.before u l;
      })

pub rooted_from : (bs b : List ℕ) (n : ℕ) → 1 ≤ n → Written (broader_in bs n) 0 1 n b → TreeBelow bs n n → Rooted n b
rooted_from bs b n some w tree =
    (λ t pos small. subst (λ (v : ℕ). v < t) (sym (w.here t pos small)) (tree t pos small), λ t past. w.past t past, w.before 0 (omega arith))

pub paired_from : (bs : List ℕ) (es : List (ℕ × ℕ)) (n m : ℕ) → Written (ends_in bs n) (0, 0) 0 m es → PairsBelow bs n m → Paired n m es
paired_from bs es n m w pairs q small = subst (λ (e : ℕ × ℕ). Ordered n e) (sym (w.here q (omega arith) small)) (pairs q small)

pub unpaired_from : (f : ℕ → ℕ × ℕ) (es : List (ℕ × ℕ)) (m : ℕ) → Written f (0, 0) 0 m es → Unpaired m es
unpaired_from f es m w q past = (ap (λ (e : ℕ × ℕ). e.0) (w.past q past), ap (λ (e : ℕ × ℕ). e.1) (w.past q past))

pub tree_more : (bs : List ℕ) (n t : ℕ) → TreeBelow bs n t → broader_in bs n t < t → TreeBelow bs n (t + 1)
tree_more bs n t below here u pos small =
    ⊎_elim (λ e. subst (λ (k : ℕ). broader_in bs n k < k) (sym e) here) (λ ne. below u pos (omega (arith, ne))) (cases_eq u t)

pub pairs_more : (bs : List ℕ) (n q : ℕ) → PairsBelow bs n q → Ordered n (ends_in bs n q) → PairsBelow bs n (q + 1)
pairs_more bs n q below here p small =
    ⊎_elim (λ e. subst (λ (k : ℕ). Ordered n (ends_in bs n k)) (sym e) here) (λ ne. below p (omega (arith, ne))) (cases_eq p q)

-- What the fields of bytes say of a plan.
--     Says bs p                 each field of the bytes holds the plan's number
--     says_holds, holds_says    the same, over the list of the plan's fields
use Rattle.std.proofs.Common.{◌≡◌, ℕ, ◌+◌, ◌-◌, ◌<◌, List, ◌++◌, sym, ap, subst, arith}
use Rattle.plan.specs.Layout.{broader_in, broader_place, budget_in, ends_in, pairs_in, terms_in, width_for}
use Rattle.plan.specs.Packed.{end_fields, head_fields, plan_fields, term_fields}
use Rattle.plan.specs.Plans.{broader_of, ends_of}
use Rattle.plan.specs.declared.shape.Plan.{Plan}
use Rattle.plan.proofs.FieldLists.{widths_terms}
use Rattle.plan.proofs.Holding.{ends_hold, hold_ends, hold_terms, holds_join, holds_split, terms_hold, Holds}

pub record Says (bs : List ℕ) (p : Plan) : Type 0 where
  pub terms : terms_in bs ≡ p.terms
  pub pairs : pairs_in bs ≡ p.pairs
  pub budget : budget_in bs ≡ p.budget
  pub broader : (t : ℕ) → 0 < t → t < p.terms → broader_in bs p.terms t ≡ broader_of p t
  pub ends : (q : ℕ) → q < p.pairs → ends_in bs p.terms q ≡ ends_of p q

both : {a b : ℕ} {e : ℕ × ℕ} → a ≡ e.0 → b ≡ e.1 → ◌≡◌ {A = ℕ × ℕ} (a, b) e
both p q = λ k. (p k, q k)

module _ (bs : List ℕ) (p : Plan) where
  abbrev w : ℕ
  w = width_for p.terms

  abbrev heads : List (ℕ × ℕ)
  heads = head_fields p.terms p.pairs p.budget

  abbrev ts : List (ℕ × ℕ)
  ts = term_fields w (broader_of p) (p.terms - 1)

  abbrev es : List (ℕ × ℕ)
  es = end_fields w (ends_of p) p.pairs

  pub says_holds : Says bs p → Holds bs 0 (plan_fields p)
  says_holds s =
      holds_join bs 0 heads (ts ++ es) (s.terms, (s.pairs, (s.budget, tt)))
      (holds_join bs 26 ts es
      (terms_hold bs 26 w (broader_of p) (p.terms - 1) (λ t pos le. s.broader t pos (omega arith)))
      (subst (λ k. Holds bs (26 + k) es) (sym (widths_terms w (broader_of p) (p.terms - 1)))
      (ends_hold bs (broader_place p.terms p.terms) w (ends_of p) p.pairs (λ q h. let e = s.ends q h in (ap (λ (x : ℕ × ℕ). x.0) e, ap (λ (x : ℕ × ℕ). x.1) e)))))

  pub holds_says : Holds bs 0 (plan_fields p) → Says bs p
  holds_says h =
      let first = holds_split bs 0 heads (ts ++ es) h in
      let second = holds_split bs 26 ts es first.1 in
      let rest = subst (λ k. Holds bs (26 + k) es) (widths_terms w (broader_of p) (p.terms - 1)) second.1 in
      record {
        terms = first.0.0;
        pairs = first.0.1.0;
        budget = first.0.1.1.0;
        broader = λ t pos less. hold_terms bs 26 w (broader_of p) (p.terms - 1) second.0 t pos (omega arith);
        ends = λ q less. let e = hold_ends bs (broader_place p.terms p.terms) w (ends_of p) p.pairs rest q less in both e.0 e.1;
      }

-- One plan is one value: what a plan's bytes say fixes it whole.
--     same_plan        plans with equal numbers and arrays are equal
--     described_once   bytes describe at most one plan
use denote.Struct.Props.{props}
use mathlib.Core.HLevel.{is_prop→PathP}
use Rattle.std.proofs.Common.{◌≡◌, ℕ, List, get_or, sym, ap, ◌∙◌, ⊎_elim, arith}
use Rattle.std.proofs.lemmas.List.{ext_get_or}
use Rattle.std.proofs.lemmas.Bool.{cases_eq, cases_lt}
use Rattle.plan.specs.Layout.{Describes}
use Rattle.plan.specs.Shape.{Counted, Paired, Rooted, Stored, Unpaired}
use Rattle.plan.specs.declared.shape.Plan.{Plan}

counted_prop : (n m : ℕ) → IsProp (Counted n m)
counted_prop n m = hlevel props

rooted_prop : (n : ℕ) (b : List ℕ) → IsProp (Rooted n b)
rooted_prop n b = hlevel props

paired_prop : (n m : ℕ) (es : List (ℕ × ℕ)) → IsProp (Paired n m es)
paired_prop n m es = hlevel props

unpaired_prop : (m : ℕ) (es : List (ℕ × ℕ)) → IsProp (Unpaired m es)
unpaired_prop m es = hlevel props

stored_prop : (k : ℕ) (b : List ℕ) (es : List (ℕ × ℕ)) → IsProp (Stored k b es)
stored_prop k b es = hlevel props

pub same_plan : (p q : Plan) → p.terms ≡ q.terms → p.pairs ≡ q.pairs → p.budget ≡ q.budget → p.broader ≡ q.broader → p.ends ≡ q.ends → p ≡ q
same_plan p q n m k b es = λ i. record {
  terms = n i;
  pairs = m i;
  budget = k i;
  broader = b i;
  ends = es i;
  counted = is_prop→PathP (λ j. Counted (n j) (m j)) (λ j. counted_prop (n j) (m j)) p.counted q.counted i;
  rooted = is_prop→PathP (λ j. Rooted (n j) (b j)) (λ j. rooted_prop (n j) (b j)) p.rooted q.rooted i;
  paired = is_prop→PathP (λ j. Paired (n j) (m j) (es j)) (λ j. paired_prop (n j) (m j) (es j)) p.paired q.paired i;
  unpaired = is_prop→PathP (λ j. Unpaired (m j) (es j)) (λ j. unpaired_prop (m j) (es j)) p.unpaired q.unpaired i;
  stored = is_prop→PathP (λ j. Stored (k j) (b j) (es j)) (λ j. stored_prop (k j) (b j) (es j)) p.stored q.stored i;
}

zeros : {e f : ℕ × ℕ} → (e.0 ≡ 0) × (e.1 ≡ 0) → (f.0 ≡ 0) × (f.1 ≡ 0) → e ≡ f
zeros (a, b) (c, d) = λ i. ((a ∙ sym c) i, (b ∙ sym d) i)

module _ (bs : List ℕ) (p q : Plan) (d : Describes bs p) (e : Describes bs q) where
  same_broader : p.broader ≡ q.broader
  same_broader =
      let n : p.terms ≡ q.terms = d.terms ∙ sym e.terms in
      ext_get_or 0 p.broader q.broader (p.stored.1 ∙ sym q.stored.1) (λ t _.
      ⊎_elim
      (λ z. ap (λ k. get_or p.broader k 0) z ∙ p.rooted.2 ∙ sym (ap (λ k. get_or q.broader k 0) z ∙ q.rooted.2))
      (λ nz. ⊎_elim
      (λ less. d.broader t (omega (arith, nz)) (omega (arith, d.terms)) ∙ sym (e.broader t (omega (arith, nz)) (omega (arith, d.terms))))
      (λ past. p.rooted.1 t past ∙ sym (q.rooted.1 t (omega arith)))
      (cases_lt t p.terms))
      (cases_eq t 0))

  same_ends : p.ends ≡ q.ends
  same_ends =
      let m : p.pairs ≡ q.pairs = d.pairs ∙ sym e.pairs in
      ext_get_or (0, 0) p.ends q.ends (p.stored.2 ∙ sym q.stored.2) (λ k _.
      ⊎_elim
      (λ less. d.ends k (omega (arith, d.pairs)) ∙ sym (e.ends k (omega (arith, d.pairs))))
      (λ past. zeros (p.unpaired k past) (q.unpaired k (omega arith)))
      (cases_lt k p.pairs))

  pub described_once : p ≡ q
  described_once = same_plan p q (d.terms ∙ sym e.terms) (d.pairs ∙ sym e.pairs) (d.budget ∙ sym e.budget) same_broader same_ends

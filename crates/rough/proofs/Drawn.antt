-- The small plan, as a tree and pairs that compute.
--     sample_up, sample_ends    its broader terms and its pairs
--     booked n k up ends        what a book tells of such a tree and such pairs
--     sample_told               a plan that is the sample is told as this
--     sample_cut                its rough cut
use Rattle.std.proofs.Common.{◌≡◌, ℕ, ◌-◌, ◌&&◌, ltb, [], ◌∷◌, get_or, sym, refl, ap, ◌∙◌, subst, arith}
use mathlib.Core.Path.{fun_ext}
use Rattle.plan.specs.Plans.{broader_of, ends_of}
use Rattle.plan.specs.Tree.{leg, rank, way, way_within}
use Rattle.plan.specs.declared.shape.Plan.{Plan}
use Rattle.book.specs.Meaning.{Meaning}
use Rattle.book.specs.Told.{told}
use Rattle.rough.specs.Sample.{IsSample, SampleCut, SampleIsCut}

abbrev booked : ℕ → ℕ → (ℕ → ℕ) → (ℕ → ℕ × ℕ) → Meaning
booked n k up ends = record {
  highest = n - 1;
  pairs = k;
  live = λ l. ltb 0 l && ltb l n;
  opened = λ q. ltb q k;
  rank = λ q. rank up (ends q).0 (ends q).1;
  first = λ q. leg up (ends q).0 (ends q).1;
  second = λ q. leg up (ends q).1 (ends q).0;
}

abbrev sample_up : ℕ → ℕ
sample_up t = get_or (0 ∷ 0 ∷ 0 ∷ 1 ∷ 1 ∷ 2 ∷ 2 ∷ []) t 0

abbrev sample_ends : ℕ → ℕ × ℕ
sample_ends q = get_or ((3, 4) ∷ (4, 5) ∷ (5, 6) ∷ (1, 3) ∷ []) q (0, 0)

abbrev sample : Meaning
sample = booked 7 4 sample_up sample_ends

module _ (p : Plan) (is : IsSample p) where
  up_at : (t : ℕ) → broader_of p t ≡ sample_up t
  up_at t = grind arith

  ends_at : (q : ℕ) → ends_of p q ≡ sample_ends q
  ends_at q = grind arith

  sample_told : told p ≡ sample
  sample_told =
      ap (λ n. booked n p.pairs (broader_of p) (ends_of p)) is.terms ∙ ap (λ k. booked 7 k (broader_of p) (ends_of p)) is.pairs ∙
      ap (λ up. booked 7 4 up (ends_of p)) (fun_ext up_at) ∙ ap (λ ends. booked 7 4 sample_up ends) (fun_ext ends_at)

computed : SampleCut sample
unfolding way way_within
computed = record { order = refl; links = refl; apart = refl; fits = refl; narrow = refl; short = refl }

pub sample_cut : SampleIsCut
sample_cut p is = subst SampleCut (sym (sample_told p is)) computed

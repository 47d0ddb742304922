-- Reductions in a row.
--     union_assoc           three sets together, whichever two go first
--     same_reduces          an instance reduces to itself
--     reductions_compose    two reductions in a row are one, and the links that they cut add up
use Rattle.std.proofs.Common.{◌≡◌, ℕ, ◌+◌, sym, refl, ap, ◌∙◌, subst, ⊎_elim, arith}
use mathlib.Core.Bool.{or_assoc}
use mathlib.Core.Path.{fun_ext}
use Rattle.std.proofs.lemmas.Bool.{cases_Bool, false≢true, or_cases}
use Rattle.cuts.proofs.Counting.{count_apart, count_empty}
use Rattle.cuts.specs.Instances.{Instance, Sound, CutWithin, size}
use Rattle.cuts.specs.Links.{Links, In, Outside, count, none, union}
use Rattle.cuts.specs.Reduces.{Reduces}

pub union_assoc : (s t u : Links) → union s (union t u) ≡ union (union s t) u
union_assoc s t u = fun_ext (λ x. sym (or_assoc (s x) (t x) (u x)))

pub same_reduces : (i : Instance) → Sound i → (b : ℕ) → Reduces i b i b none
same_reduces i ok b =
    let nothing : size i none ≡ 0 = count_empty none (λ x. refl) i.highest in
    record {
      sound = ok;
      numbering = refl;
      spent = omega arith;
      taken = λ l h. absurd (false≢true h);
      gone = λ l h _. false≢true h;
      fewer = λ l h. h;
      roads = λ full. full;
      back = λ s w. w;
      onward = λ s w. (s, w.cut, omega arith);
    }

pub reductions_compose :
    (i j m : Instance) (b k d : ℕ) (c e : Links) → Reduces i b j k c → Reduces j k m d e → Reduces i b m d (union c e)
reductions_compose i j m b k d c e first next =
    let same-j : (s : Links) → size j s ≡ size i s = λ s. ap (count s) first.numbering in
    let apart : (x : ℕ) → In c x → Outside e x = λ x h.
    ⊎_elim (λ both. absurd (first.gone x h (next.taken x both))) (λ out. out) (cases_Bool (e x)) in
    let sum : size i (union c e) ≡ size i c + size i e = count_apart c e apart i.highest in
    record {
      sound = next.sound;
      numbering = next.numbering ∙ first.numbering;
      spent = omega (arith, first.spent, next.spent, same-j e);
      taken = λ x h. ⊎_elim (first.taken x) (λ a. first.fewer x (next.taken x a)) (or_cases (c x) (e x) h);
      gone = λ x h still. ⊎_elim (λ a. first.gone x a (next.fewer x still)) (λ a. next.gone x a still) (or_cases (c x) (e x) h);
      fewer = λ x h. first.fewer x (next.fewer x h);
      roads = λ full. next.roads (first.roads full);
      back = λ s w. subst (CutWithin i b) (union_assoc c e s) (first.back (union e s) (next.back s w));
      onward = λ s w.
          let (t, t-cut, t-le) = first.onward s w in
          let (u, u-cut, u-le) = next.onward t (record { cut = t-cut; small = omega (arith, first.spent, w.small) }) in
          (u, u-cut, omega (arith, same-j e));
    }

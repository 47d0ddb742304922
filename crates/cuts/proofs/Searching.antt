-- Whether there is a cut within k is decided by trying every set of links.
--     meets_decided      whether a set meets a pair
--     cut_decided        whether a set of links of the instance is a cut
--     some_set_found     if f is true of some set among 1 to n, here is one
--     some_set_from      and if it is true of a set among them, it is true of some
--     has_cut_decided    whether there is a cut within k
use Rattle.std.proofs.Common.{◌≡◌, ℕ, zero, suc, ◌+◌, ◌≤◌, Bool, true, false, not, ◌&&◌, ◌||◌, eqb, leb, Decides, sym, refl, ap, ◌∙◌, ⊎_elim, arith}
use mathlib.Core.Path.{fun_ext}
use Rattle.std.proofs.lemmas.Bool.{and_from, and_parts, both_ways, cases_Bool, cases_eq, eqb-true, false≢true, le-leb, leb-true, or_cases, or_left, or_right}
use Rattle.std.proofs.lemmas.Bool.Decides.{Decides-and, Decides-below_or, Decides-like}
use Rattle.cuts.proofs.Counting.{less_in, less_other}
use Rattle.cuts.proofs.Deciding.{decides_implies, decides_self, links_decided, pairs_decided}
use Rattle.cuts.specs.Instances.{Instance, Live, Open, On, Sound, Met, Cut, HasCut, size}
use Rattle.cuts.specs.Links.{Links, In, less, none, one, union}
use Rattle.cuts.proofs.Chains.{any_next}
use Rattle.std.specs.List.{list_any, range_with_len}
use Rattle.cuts.specs.Search.{has_cut, is_cut, is_cut_within, live_if_in, meets, meets_by, met_if_open, some_set, with_link}
use Rattle.cuts.specs.Tests.{all_links, all_pairs}

-- the links of s are among 1 to n
abbrev Among : ℕ → Links → Type 0
Among n s = (x : ℕ) → In s x → (1 ≤ x) × (x ≤ n)

-- a set with l in it is l and the rest
put_back : (a b : Bool) → (b ≡ true → a ≡ true) → a ≡ (b || (a && not b))
put_back true true h = refl
put_back true false h = refl
put_back false true h = absurd (false≢true (h refl))
put_back false false h = refl

link_and_rest : (s : Links) (l : ℕ) → In s l → s ≡ union (one l) (less s l)
link_and_rest s l h = fun_ext (λ x. put_back (s x) (eqb x l) (λ e. ap s (eqb-true x l e) ∙ h))

among_more : (n : ℕ) (s : Links) → Among n s → Among (suc n) s
among_more n s h x e = let (low, high) = h x e in (low, omega arith)

among_with : (n : ℕ) (s : Links) → Among n s → Among (suc n) (union (one (suc n)) s)
among_with n s h x e =
    ⊎_elim (λ a. let is : x ≡ suc n = eqb-true x (suc n) a in (omega arith, omega arith)) (among_more n s h x) (or_cases (eqb x (suc n)) (s x) e)

among_fewer : (n : ℕ) (s : Links) → Among (suc n) s → ((x : ℕ) → In s x → x ≡ suc n → ⊥) → Among n s
among_fewer n s h other x e =
    let (low, high) = h x e in
    (low, ⊎_elim (λ is. absurd (other x e is)) (λ ne. omega arith) (cases_eq x (suc n)))

pub some_set_found : (f : Links → Bool) (n : ℕ) → some_set f n ≡ true → (s : Links) × Among n s × (f s ≡ true)
some_set_found f zero e = (none, (λ x h. absurd (false≢true h)), e)
some_set_found f (suc n) e =
    ⊎_elim
    (λ a. let (s, inner, passes) = some_set_found f n a in (s, among_more n s inner, passes))
    (λ a.
    let (s, inner, passes) = some_set_found (with_link f (suc n)) n a in
    (union (one (suc n)) s, among_with n s inner, passes))
    (or_cases (some_set f n) (some_set (with_link f (suc n)) n) e)

pub some_set_from : (f : Links → Bool) (n : ℕ) (s : Links) → Among n s → f s ≡ true → some_set f n ≡ true
some_set_from f zero s inner passes =
    let empty : (x : ℕ) → s x ≡ false = λ x.
    ⊎_elim (λ h. absurd (let (low, high) = inner x h in omega arith)) (λ h. h) (cases_Bool (s x)) in
    ap f (sym (fun_ext empty)) ∙ passes
some_set_from f (suc n) s inner passes =
    ⊎_elim
    (λ h. or_right (some_set f n) (some_set (with_link f (suc n)) n)
    (some_set_from (with_link f (suc n)) n (less s (suc n))
    (among_fewer n (less s (suc n)) (λ x e. inner x (less_in s (suc n) x e)) (less_other s (suc n)))
    (ap f (sym (link_and_rest s (suc n) h)) ∙ passes)))
    (λ h. or_left (some_set f n) (some_set (with_link f (suc n)) n)
    (some_set_from f n s (among_fewer n s inner (λ x e is. both_ways (s (suc n)) h (ap s (sym is) ∙ e))) passes))
    (cases_Bool (s (suc n)))

module _ (i : Instance) (ok : Sound i) where
  pub meets_decided : (s : Links) (p : ℕ) → Decides (meets i s p) (Met i s p)
  meets_decided s p =
      Decides-like (meets i s p)
      (λ (x, _, (x-in, x-on)). (x, x-in, x-on))
      (λ (x, x-in, x-on). let high = ok.to_highest x (ok.on_live x p x-on) in (x, omega arith, (x-in, x-on)))
      (Decides-below_or (meets_by i s p) (λ x. In s x × On i x p) (λ n. list_any (meets_by i s p) (range_with_len 0 n))
      (λ x. Decides-and (s x) (i.on x p) (decides_self (s x)) (decides_self (i.on x p))) refl (any_next (meets_by i s p)) (i.highest + 1))

  pub cut_decided : (s : Links) → ((x : ℕ) → In s x → x ≤ i.highest) → Decides (is_cut i s) (Cut i s)
  cut_decided s inner =
      Decides-like (is_cut i s)
      (λ (inside, met). record { inside = inside; meets = met })
      (λ cut. (cut.inside, cut.meets))
      (Decides-and (all_links i (live_if_in i s)) (all_pairs i (met_if_open i s))
      (links_decided i (live_if_in i s) (λ x. In s x → Live i x)
      (λ x. decides_implies (s x) (i.live x) (decides_self (s x)) (decides_self (i.live x)))
      (λ x h e. h (inner x e) e))
      (pairs_decided i (met_if_open i s) (λ p. Open i p → Met i s p)
      (λ p. decides_implies (i.opened p) (meets i s p) (decides_self (i.opened p)) (meets_decided s p))
      (λ p h e. h (ok.numbered p e) e)))

  pub has_cut_decided : (k : ℕ) → Decides (has_cut i k) (HasCut i k)
  has_cut_decided k = (
    λ e.
        let (s, inner, passes) = some_set_found (is_cut_within i k) i.highest e in
        let (cutting, is-small) = and_parts (is_cut i s) (leb (size i s) k) passes in
        (s, record { cut = (cut_decided s (λ x h. (inner x h).1)).0 cutting; small = leb-true (size i s) k is-small }),
    λ (s, w).
        let inner : Among i.highest s = λ x h. (ok.from_one x (w.cut.inside x h), ok.to_highest x (w.cut.inside x h)) in
        some_set_from (is_cut_within i k) i.highest s inner
        (and_from (is_cut i s) (leb (size i s) k) ((cut_decided s (λ x h. (inner x h).1)).1 w.cut) (le-leb (size i s) k w.small)),
  )

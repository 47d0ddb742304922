-- What a rough cut lays into the slices keeps its promise.
--     no_empty     where no empty road is found, there is none
--     promised     the promise, from the answer and the two slices
use Rattle.std.proofs.Common.{◌≡◌, ℕ, false, List, ◌++◌, length, take, drop, None, Ok, Err, sym, refl, ap, ◌∙◌, subst, arith}
use Rattle.std.proofs.lemmas.List.{take_at}
use Rattle.cuts.specs.Instances.{Open}
use Rattle.book.specs.Meaning.{Lawful, Meaning}
use Rattle.book.specs.Posed.{posed}
use Rattle.rough.proofs.Approximate.{rough_cut}
use Rattle.rough.proofs.Lowest.{lowest_none}
use Rattle.rough.proofs.Ordered.{one_order}
use Rattle.rough.specs.Outcome.{Counts, empty_road, fitted, laid, lowest}
use Rattle.rough.specs.Promise.{Promised, RoughCut}
use Rattle.rough.specs.Run.{apart_of, links_of}
use Rattle.rough.specs.declared.fault.RoughFault.TheVariants.{EmptyRoad, LinksBuffer, PairsBuffer}

pub no_empty : (m : Meaning) → Lawful m → lowest (empty_road m) m.pairs ≡ None → (p : ℕ) → Open (posed m) p → empty_road m p ≡ false
no_empty m law e p o = lowest_none (empty_road m) m.pairs e p (law.opened_in p o)

fitted_ok : (ls ps : List ℕ) (a b : ℕ) (c : ℕ × ℕ) → Ok c ≡ fitted ls ps a b → (c.0 ≡ length ls) × (c.1 ≡ length ps)
fitted_ok ls ps a b c e = grind arith

-- an empty road is not refused for its slices
fitted_err : (ls ps : List ℕ) (a b p : ℕ) → Err (EmptyRoad p) ≡ fitted ls ps a b → ⊥
fitted_err ls ps a b p e = grind arith

-- the front of a slice into which a list was laid is that list
front : (n : ℕ) (ls xs zs : List ℕ) → n ≡ length ls → zs ≡ ls ++ drop (length ls) xs → take n zs ≡ ls
front n ls xs zs e f = ap (λ k. take k zs) e ∙ ap (take (length ls)) f ∙ take_at ls (drop (length ls) xs) (length ls) refl

pub promised :
    (m : Meaning) → Lawful m → lowest (empty_road m) m.pairs ≡ None → (r : Counts) (xs ys zs ws : List ℕ) →
    r ≡ fitted (links_of m) (apart_of m) (length xs) (length ys) → zs ≡ laid r (links_of m) xs → ws ≡ laid r (apart_of m) ys → Promised m r zs ws
promised m law e (Err (EmptyRoad p)) xs ys zs ws is left right = absurd (fitted_err (links_of m) (apart_of m) (length xs) (length ys) p is)
promised m law e (Err (LinksBuffer n)) xs ys zs ws is left right = tt
promised m law e (Err (PairsBuffer n)) xs ys zs ws is left right = tt
promised m law e (Ok c) xs ys zs ws is left right =
    let ls = links_of m in
    let ps = apart_of m in
    let (n, k) = fitted_ok ls ps (length xs) (length ys) c is in
    let a : take c.0 zs ≡ ls = front c.0 ls xs zs n left in
    let b : take c.1 ws ≡ ps = front c.1 ps ys ws k right in
    let cut = rough_cut m law (no_empty m law e) in
    record {
      order = one_order m law;
      links = ap length a ∙ sym n;
      pairs = ap length b ∙ sym k;
      rough = subst (λ us. RoughCut m us (take c.1 ws)) (sym a) (subst (λ vs. RoughCut m ls vs) (sym b) cut);
    }

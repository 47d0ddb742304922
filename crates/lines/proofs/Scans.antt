-- How a scan goes on from byte to byte.
--     behind_nothing, behind_twice    numbers behind numbers
--     scan_more                       one byte on
--     scan_goes_on, scan_ends         the same, with the numbers read so far in front
--     scan_all                        at the end
use Rattle.std.proofs.Common.{◌≡◌, ℕ, ◌+◌, ◌<◌, ◌≤◌, List, [], ◌∷◌, ◌++◌, length, get_or, drop, Some, None, Option, sym, refl, ap, ◌∙◌, append_assoc}
use Rattle.std.proofs.lemmas.List.{at_drop_all, at_drop_more}
use Rattle.lines.specs.Numbers.{advanced, after_turn, at_end, behind, scanned}
use Rattle.lines.specs.declared.scan.Scan.{Scan}
use Rattle.lines.specs.declared.scan.Turn.TheVariants.{Ends, GoesOn}

pub behind_nothing : (o : Option (List ℕ)) → behind [] o ≡ o
behind_nothing None = refl
behind_nothing (Some ns) = refl

pub behind_twice : (ns ms : List ℕ) (o : Option (List ℕ)) → behind ns (behind ms o) ≡ behind (ns ++ ms) o
behind_twice ns ms None = refl
behind_twice ns ms (Some ls) = ap Some (sym (append_assoc ns ms ls))

pub scan_more : (bs : List ℕ) (i : ℕ) (s : Scan) → i < length bs → scanned (drop i bs) s ≡ after_turn (advanced s (get_or bs i 0)) (scanned (drop (i + 1) bs))
unfolding scanned
scan_more bs i s h = at_drop_more (λ cs. scanned cs s) bs i 0 h

pub scan_all : (bs : List ℕ) (i : ℕ) (s : Scan) → length bs ≤ i → scanned (drop i bs) s ≡ at_end s
unfolding scanned
scan_all bs i s h = at_drop_all (λ cs. scanned cs s) bs i h

module _ (bs : List ℕ) (i : ℕ) (s next : Scan) (ns : List ℕ) (o : Option (List ℕ)) (h : i < length bs) (inv : behind ns (scanned (drop i bs) s) ≡ o) where
  pub scan_goes_on : GoesOn next ≡ advanced s (get_or bs i 0) → behind ns (scanned (drop (i + 1) bs) next) ≡ o
  scan_goes_on e = ap (behind ns) (sym (scan_more bs i s h ∙ ap (λ t. after_turn t (scanned (drop (i + 1) bs))) (sym e))) ∙ inv

  pub scan_ends : (n : ℕ) → Ends n next ≡ advanced s (get_or bs i 0) → behind (ns ++ (n ∷ [])) (scanned (drop (i + 1) bs) next) ≡ o
  scan_ends n e =
      sym (behind_twice ns (n ∷ []) (scanned (drop (i + 1) bs) next)) ∙
      ap (behind ns) (sym (scan_more bs i s h ∙ ap (λ t. after_turn t (scanned (drop (i + 1) bs))) (sym e))) ∙ inv

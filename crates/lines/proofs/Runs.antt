-- What has been printed, from line to line.
--     run_more    one line more
--     run_all     no line is left
use Rattle.std.proofs.Common.{◌≡◌, ℕ, ◌+◌, List, [], ◌∷◌, ◌++◌, sym, ap, ◌∙◌, append_assoc}
use Rattle.std.proofs.lemmas.List.{append-nil}
use Rattle.book.specs.Meaning.{Meaning}
use Rattle.working.specs.declared.tally.Tally.{Tally}
use Rattle.lines.specs.Calls.{line_judged, tally_after}
use Rattle.lines.specs.Printed.{line_said, run_said}

module _ (m : Meaning) (t : Tally) (n : ℕ) (out all : List ℕ) where
  pub run_more :
      (ls : List (List ℕ)) (l : List ℕ) (rest : List (List ℕ)) (said more : List ℕ) (u : Tally) →
      out ++ run_said m t n ls ≡ all → ls ≡ l ∷ rest → said ≡ line_said n (line_judged m t n l) → u ≡ tally_after (line_judged m t n l) t →
      more ≡ out ++ said → more ++ run_said m u (n + 1) rest ≡ all
  unfolding run_said
  run_more ls l rest said more u inv split s e p =
      let j = line_judged m t n l in
      ap (λ xs. xs ++ run_said m u (n + 1) rest) p ∙
      append_assoc out said (run_said m u (n + 1) rest) ∙
      ap (λ xs. out ++ (xs ++ run_said m u (n + 1) rest)) s ∙
      ap (λ v. out ++ (line_said n j ++ run_said m v (n + 1) rest)) e ∙
      sym (ap (λ x. out ++ run_said m t n x) split) ∙ inv

  pub run_all : (ls : List (List ℕ)) → out ++ run_said m t n ls ≡ all → ls ≡ [] → out ≡ all
  unfolding run_said
  run_all ls inv none = sym (ap (λ x. out ++ run_said m t n x) none ∙ append-nil out) ∙ inv

-- Runs of admitted steps, and what a run promises.
--     Run i b j k c                admitted steps lead from the instance i with the budget b to j with k left; the links c are cut
--     AllAdmitted i k ss           each step of the list is admitted where its turn comes
--     after_all, left_after_all    the instance after them, and what is left
--     cut_by_all, cost_of_all      the links that they cut, and how often they cut
--     SameFewest i j c f g         f is the fewest of i, g the fewest of j, and f is the links c and g together
--     Faithful i b j k c           whoever solves what remains has solved the start, with as few links; and each has a cut
--                                  within what it may spend if the other has
use Rattle.std.specs.Prelude.{◌≡◌, ℕ, ◌+◌, List, [], ◌∷◌}
use Rattle.cuts.specs.Instances.{Instance, CutWithin, Fewest, HasCut, size}
use Rattle.cuts.specs.Links.{Links, none, union}
use Rattle.cuts.specs.Steps.{Admitted, Step, after, cost_of, cut_by, left_after}

pub data Run (i : Instance) (b : ℕ) : Instance → ℕ → Links → Type 0 where
  no_step : Run i b i b none
  one_more : {j : Instance} {k : ℕ} {c : Links} →
      Run i b j k c → (s : Step) → Admitted j k s → Run i b (after j s) (left_after k s) (union c (cut_by s))

abbrev pub AllAdmitted : Instance → ℕ → List Step → Type 0
AllAdmitted i k [] = Unit {0}
AllAdmitted i k (s ∷ ss) = Admitted i k s × AllAdmitted (after i s) (left_after k s) ss

abbrev pub after_all : Instance → List Step → Instance
after_all i [] = i
after_all i (s ∷ ss) = after_all (after i s) ss

abbrev pub left_after_all : ℕ → List Step → ℕ
left_after_all k [] = k
left_after_all k (s ∷ ss) = left_after_all (left_after k s) ss

abbrev pub cut_by_all : List Step → Links
cut_by_all [] = none
cut_by_all (s ∷ ss) = union (cut_by s) (cut_by_all ss)

abbrev pub cost_of_all : List Step → ℕ
cost_of_all [] = 0
cost_of_all (s ∷ ss) = cost_of s + cost_of_all ss

pub record SameFewest (i j : Instance) (c : Links) (f g : ℕ) : Type 0 where
  pub whole : Fewest i f
  pub rest : Fewest j g
  pub sum : size i c + g ≡ f

pub record Faithful (i : Instance) (b : ℕ) (j : Instance) (k : ℕ) (c : Links) : Type 0 where
  pub fewest : HasCut i b → (f : ℕ) × (g : ℕ) × SameFewest i j c f g
  pub onward : HasCut i b → HasCut j k
  pub without : (HasCut i b → ⊥) → HasCut j k → ⊥
  pub back : (s : Links) → CutWithin j k s → CutWithin i b (union c s)

-- The seven reduction rules: when each applies. k is what is left of the budget.
--     IdleLink i l               no open pair has l on its road
--     DominatedLink i l h        every open pair with l on its road has h on it
--     UnitRoad i l p             l is the only link on the road of p
--     DominatedPair i q r        every link on the road of q is on that of r: who parts q parts r
--     CommonFactor i k r qs      k + 1 other pairs share no link off the road of r
--     OverloadedLink i k l qs    k + 1 pairs with l on their roads share no other link
--     DisjointPairs i k qs       k + 1 pairs share no link
--     Crowd i k qs               qs are k + 1 different open pairs
--     Share i P p q              a link on the roads of both p and q has the property P
--     Pairwise R qs              of any two of the list, R holds of the one before and the one behind
use Rattle.std.specs.Prelude.{◌≡◌, ℕ, ◌+◌, ◌≢◌, List, [], ◌∷◌, length}
use Rattle.std.specs.List.{AllByRecursion}
use Rattle.cuts.specs.Instances.{Instance, Live, Open, On}

abbrev pub Pairwise : (ℕ → ℕ → Type 0) → List ℕ → Type 0
Pairwise R [] = Unit {0}
Pairwise R (q ∷ qs) = AllByRecursion (R q) qs × Pairwise R qs

abbrev pub Differ : ℕ → ℕ → Type 0
Differ p q = p ≢ q

abbrev pub Share : Instance → (ℕ → Type 0) → ℕ → ℕ → Type 0
Share i P p q = (x : ℕ) → On i x p → On i x q → P x

-- the three properties that a shared link may be asked to have
abbrev pub OnRoad : Instance → ℕ → ℕ → Type 0
OnRoad i r x = On i x r

abbrev pub IsLink : ℕ → ℕ → Type 0
IsLink l x = x ≡ l

abbrev pub Never : ℕ → Type 0
Never x = ⊥

pub record IdleLink (i : Instance) (l : ℕ) : Type 0 where
  pub live : Live i l
  pub unused : (p : ℕ) → Open i p → On i l p → ⊥

pub record DominatedLink (i : Instance) (l h : ℕ) : Type 0 where
  pub live : Live i l
  pub by_live : Live i h
  pub other : l ≢ h
  pub follows : (p : ℕ) → Open i p → On i l p → On i h p

pub record UnitRoad (i : Instance) (l p : ℕ) : Type 0 where
  pub live : Live i l
  pub opened : Open i p
  pub on : On i l p
  pub sole : (x : ℕ) → On i x p → x ≡ l

pub record DominatedPair (i : Instance) (q r : ℕ) : Type 0 where
  pub inner : Open i q
  pub outer : Open i r
  pub other : q ≢ r
  pub along : (x : ℕ) → On i x q → On i x r

pub record Crowd (i : Instance) (k : ℕ) (qs : List ℕ) : Type 0 where
  pub many : length qs ≡ k + 1
  pub opened : AllByRecursion (Open i) qs
  pub different : Pairwise Differ qs

pub record CommonFactor (i : Instance) (k r : ℕ) (qs : List ℕ) : Type 0 where
  pub opened : Open i r
  pub crowd : Crowd i k qs
  pub others : AllByRecursion (Differ r) qs
  pub shared : Pairwise (Share i (OnRoad i r)) qs

pub record OverloadedLink (i : Instance) (k l : ℕ) (qs : List ℕ) : Type 0 where
  pub live : Live i l
  pub crowd : Crowd i k qs
  pub through : AllByRecursion (On i l) qs
  pub shared : Pairwise (Share i (IsLink l)) qs

pub record DisjointPairs (i : Instance) (k : ℕ) (qs : List ℕ) : Type 0 where
  pub crowd : Crowd i k qs
  pub shared : Pairwise (Share i Never) qs

-- What a judgement has checked.
--     check_parts, check_none_parts     a judgement that admits has passed its check
--     closed_all, all_closed            no listed pair is closed exactly when all are open
--     repeat_all, all_repeat            none repeats another exactly when all are different
use Rattle.std.proofs.Common.{◌≡◌, ℕ, Bool, true, false, not, eqb, List, [], ◌∷◌, ◌++◌, Some, None, Ok, Err, Option, sym, refl, ap, ◌∙◌, subst, ⊎_elim, arith}
use Rattle.std.specs.List.{list_all}
use Rattle.std.proofs.lemmas.Bool.{and_from, and_parts, both_ways, cases_Bool, cond-false, cond-true, eq-eqb, eqb-true, not_from_false, not_from_true, ne_eqb, or_cases, or_left, or_right}
use Rattle.cuts.specs.Tests.{differ, pairwise}
use Rattle.plan.proofs.Climbs.{among_push}
use Rattle.plan.specs.Tree.{among}
use Rattle.rules.specs.Faulty.{first_closed, first_repeat}
use Rattle.working.specs.Judging.{Judgement, check, check_none}
use Rattle.working.specs.declared.fault.WorkingFault.{WorkingFault}
use Rattle.working.specs.declared.tally.Tally.{Tally}

err_ok : {f : WorkingFault} {u : Tally} → ◌≡◌ {A = Judgement} (Err f) (Ok u) → ⊥
err_ok e = let z : ◌≡◌ {A = ℕ} 0 1 = cc in omega arith

pub check_parts : (b : Bool) (f : WorkingFault) (r : Judgement) (u : Tally) → check b f r ≡ Ok u → (b ≡ true) × (r ≡ Ok u)
check_parts true f r u e = (refl, e)
check_parts false f r u e = absurd (err_ok e)

pub check_none_parts : (o : Option ℕ) (f : ℕ → WorkingFault) (r : Judgement) (u : Tally) → check_none o f r ≡ Ok u → (o ≡ None) × (r ≡ Ok u)
check_none_parts None f r u e = (refl, e)
check_none_parts (Some n) f r u e = absurd (err_ok e)

pub check_from : (b : Bool) (f : WorkingFault) (r : Judgement) (u : Tally) → b ≡ true → r ≡ Ok u → check b f r ≡ Ok u
check_from b f r u t e = cond-true b r (Err f) t ∙ e

pub check_none_from : (o : Option ℕ) (f : ℕ → WorkingFault) (r : Judgement) (u : Tally) → o ≡ None → r ≡ Ok u → check_none o f r ≡ Ok u
check_none_from o f r u t e = ap (λ x. check_none x f r) t ∙ e

some_none : {n : ℕ} → ◌≡◌ {A = Option ℕ} (Some n) None → ⊥
some_none e = let z : ◌≡◌ {A = ℕ} 0 1 = cc in omega arith

pub closed_all : (f : ℕ → Bool) (qs : List ℕ) → first_closed f qs ≡ None → list_all f qs ≡ true
closed_all f [] e = refl
closed_all f (q ∷ qs) e =
    let more = first_closed f qs in
    ⊎_elim
    (λ t. and_from (f q) (list_all f qs) t (closed_all f qs (sym (cond-false (not (f q)) (Some q) more (not_from_true (f q) t)) ∙ e)))
    (λ t. absurd (some_none (sym (cond-true (not (f q)) (Some q) more (not_from_false (f q) t)) ∙ e)))
    (cases_Bool (f q))

pub all_closed : (f : ℕ → Bool) (qs : List ℕ) → list_all f qs ≡ true → first_closed f qs ≡ None
all_closed f [] e = refl
all_closed f (q ∷ qs) e =
    let h = and_parts (f q) (list_all f qs) e in
    cond-false (not (f q)) (Some q) (first_closed f qs) (not_from_true (f q) h.0) ∙ all_closed f qs h.1

among_last : (q : ℕ) (seen : List ℕ) → among q (seen ++ (q ∷ [])) ≡ true
among_last q seen = among_push q seen q ∙ or_right (among q seen) (eqb q q) (eq-eqb q q refl)

among_more : (s q : ℕ) (seen : List ℕ) → among s seen ≡ true → among s (seen ++ (q ∷ [])) ≡ true
among_more s q seen e = among_push s seen q ∙ or_left (among s seen) (eqb s q) e

differ_from : (s q : ℕ) → (s ≡ q → ⊥) → differ s q ≡ true
differ_from s q ne = not_from_false (eqb s q) (ne_eqb s q ne)

pub repeat_all : (seen qs : List ℕ) → first_repeat seen qs ≡ None → (pairwise differ qs ≡ true) × ((s : ℕ) → among s seen ≡ true → list_all (differ s) qs ≡ true)
repeat_all seen [] e = (refl, λ s h. refl)
repeat_all seen (q ∷ qs) e =
    ⊎_elim
    (λ t. absurd (some_none (sym (cond-true (among q seen) (Some q) (first_repeat (seen ++ (q ∷ [])) qs) t) ∙ e)))
    (λ t.
    let r = repeat_all (seen ++ (q ∷ [])) qs (sym (cond-false (among q seen) (Some q) (first_repeat (seen ++ (q ∷ [])) qs) t) ∙ e) in (
      and_from (list_all (differ q) qs) (pairwise differ qs) (r.1 q (among_last q seen)) r.0,
      λ s h. and_from (differ s q) (list_all (differ s) qs) (differ_from s q (λ is. both_ways (among q seen) t (ap (λ x. among x seen) (sym is) ∙ h))) (r.1 s (among_more s q seen h)),
    ))
    (cases_Bool (among q seen))

pub all_repeat : (seen qs : List ℕ) → pairwise differ qs ≡ true → ((s : ℕ) → among s seen ≡ true → list_all (differ s) qs ≡ true) → first_repeat seen qs ≡ None
all_repeat seen [] e from = refl
all_repeat seen (q ∷ qs) e from =
    let h = and_parts (list_all (differ q) qs) (pairwise differ qs) e in
    let self : differ q q ≡ false = not_from_true (eqb q q) (eq-eqb q q refl) in
    ⊎_elim
    (λ t. absurd (both_ways (differ q q) self (and_parts (differ q q) (list_all (differ q) qs) (from q t)).0))
    (λ t.
    cond-false (among q seen) (Some q) (first_repeat (seen ++ (q ∷ [])) qs) t ∙
    all_repeat (seen ++ (q ∷ [])) qs h.1 (λ s a.
    ⊎_elim
    (λ b. (and_parts (differ s q) (list_all (differ s) qs) (from s b)).1)
    (λ b. subst (λ x. list_all (differ x) qs ≡ true) (sym (eqb-true s q b)) h.0)
    (or_cases (among s seen) (eqb s q) (sym (among_push s seen q) ∙ a))))
    (cases_Bool (among q seen))

-- A run loses nothing, however many steps it has.
--     run_reduces    a run reduces
--     run_join       a run from where another ended goes on with it
--     listed_run     a list of steps, each admitted where its turn comes, is a run
--     listed_sum     the links that the list cuts are as many as its steps that cut; with what is left they make up the budget
use Rattle.std.proofs.Common.{◌≡◌, ℕ, ◌+◌, List, [], ◌∷◌, sym, subst, arith}
use mathlib.Core.Bool.{or-false}
use mathlib.Core.Path.{fun_ext}
use Rattle.cuts.proofs.Composing.{reductions_compose, same_reduces, union_assoc}
use Rattle.cuts.proofs.Stepping.{step_reduces}
use Rattle.cuts.specs.Instances.{Instance, Sound, size}
use Rattle.cuts.specs.Links.{Links, union}
use Rattle.cuts.specs.Reduces.{Reduces}
use Rattle.cuts.specs.Runs.{AllAdmitted, Run, after_all, cost_of_all, cut_by_all, left_after_all, no_step, one_more}
use Rattle.cuts.specs.Steps.{Admitted, Step, after, cost_of, cut_by, left_after}

pub run_reduces : (i : Instance) → Sound i → (b : ℕ) (j : Instance) (k : ℕ) (c : Links) → Run i b j k c → Reduces i b j k c
run_reduces i ok b j k c no_step = same_reduces i ok b
run_reduces i ok b j k c (one_more {j = m} {k = d} {c = e} run s admitted) =
    let before = run_reduces i ok b m d e run in
    reductions_compose i m (after m s) b d (left_after d s) e (cut_by s) before (step_reduces m before.sound d s admitted)

pub run_join :
    (i : Instance) (b : ℕ) (j : Instance) (k : ℕ) (c : Links) → Run i b j k c →
    (m : Instance) (d : ℕ) (e : Links) → Run j k m d e → Run i b m d (union c e)
run_join i b j k c run m d e no_step = subst (Run i b j k) (sym (fun_ext (λ x. or-false (c x)))) run
run_join i b j k c run m d e (one_more {j = n} {k = h} {c = f} more s admitted) =
    subst (Run i b (after n s) (left_after h s)) (sym (union_assoc c f (cut_by s))) (one_more (run_join i b j k c run n h f more) s admitted)

pub listed_run : (i : Instance) (b : ℕ) (ss : List Step) → AllAdmitted i b ss → Run i b (after_all i ss) (left_after_all b ss) (cut_by_all ss)
listed_run i b [] h = no_step
listed_run i b (s ∷ ss) (first, rest) =
    run_join i b (after i s) (left_after b s) (cut_by s) (one_more no_step s first)
    (after_all (after i s) ss) (left_after_all (left_after b s) ss) (cut_by_all ss) (listed_run (after i s) (left_after b s) ss rest)

step_cost : (i : Instance) (k : ℕ) (s : Step) → Admitted i k s → left_after k s + cost_of s ≡ k
step_cost i k s h = grind arith

left_and_cost : (i : Instance) (b : ℕ) (ss : List Step) → AllAdmitted i b ss → left_after_all b ss + cost_of_all ss ≡ b
left_and_cost i b [] h = omega arith
left_and_cost i b (s ∷ ss) (first, rest) = omega (arith, step_cost i b s first, left_and_cost (after i s) (left_after b s) ss rest)

pub listed_sum :
    (i : Instance) → Sound i → (b : ℕ) (ss : List Step) → AllAdmitted i b ss →
    (left_after_all b ss + cost_of_all ss ≡ b) × (size i (cut_by_all ss) ≡ cost_of_all ss)
listed_sum i ok b ss h =
    let left = left_and_cost i b ss h in
    let red = run_reduces i ok b (after_all i ss) (left_after_all b ss) (cut_by_all ss) (listed_run i b ss h) in
    (left, omega (arith, red.spent))

-- Which steps are admitted, and what they do.
--     rule_of s          the step that is asked for, as a rule with its links and pairs
--     check b f r        r where b is true, and the refusal f where it is not; check_none and check_list likewise
--     ruled i t s        the step s, in an open working with the tally t whose rest poses the instance i: the tally after
--                        it, or the first refusal that meets it
--     ruled_in m t s     the same of the rest of a book that tells m
--     judged m t s       the same in any working over that book
--     Outcome j t r u    a call that j judges answers r and leaves the tally u where it found t
use Rattle.std.specs.Prelude.{◌≡◌, ℕ, ◌+◌, Bool, true, false, cond, ◌&&◌, List, [], ◌∷◌, length, Some, None, Ok, Err, Option, Result, MatchResult, ◌==◌, slice_index}
use Rattle.std.specs.List.{list_all}
use Rattle.cuts.specs.After.{off_road}
use Rattle.cuts.specs.Instances.{Instance}
use Rattle.cuts.specs.Steps.{Step, common_factor, disjoint_pairs, dominated_link, dominated_pair, idle_link, overloaded_link, unit_road}
use Rattle.cuts.specs.Tests.{all_links, all_pairs, also_on, differ, follows, pairwise, sole_on}
use Rattle.book.specs.Meaning.{Meaning}
use Rattle.book.specs.Posed.{posed}
use Rattle.rules.specs.Faulty.{first_closed, first_repeat}
use Rattle.rules.specs.Sharing.{share_only}
use Rattle.rules.specs.declared.common.Common.TheVariants.{Link, Nothing, RoadOf}
use Rattle.working.specs.Marking.{cut_link, drop_pair, end_none, weld_link}
use Rattle.working.specs.Rest.{rest}
use Rattle.working.specs.declared.fault.WorkingFault.{WorkingFault}
use Rattle.working.specs.declared.fault.WorkingFault.TheVariants.{Ended, NotLive, NotOpen, NothingLeft, Repeated, RuleFails, WrongLength}
use Rattle.working.specs.declared.step.Step.{Step as Asked}
use Rattle.working.specs.declared.step.Step.TheVariants.{CommonFactor, DisjointPairs, DominatedLink, DominatedPair, IdleLink, OverloadedLink, UnitRoad}
use Rattle.working.specs.declared.tally.State.{State}
use Rattle.working.specs.declared.tally.State.TheVariants.{NoCut, Open, Parted}
use Rattle.working.specs.declared.tally.Tally.{Tally}

abbrev pub rule_of : Asked → Step
rule_of (IdleLink l) = idle_link l
rule_of (DominatedLink l h) = dominated_link l h
rule_of (UnitRoad l p) = unit_road l p
rule_of (DominatedPair q r) = dominated_pair q r
rule_of (CommonFactor r qs) = common_factor r qs.now
rule_of (OverloadedLink l qs) = overloaded_link l qs.now
rule_of (DisjointPairs qs) = disjoint_pairs qs.now

abbrev pub Judgement : Type 0
Judgement = Result Tally WorkingFault

abbrev pub check : Bool → WorkingFault → Judgement → Judgement
check b f r = cond b r (Err f)

-- r where no number is at fault, and else the refusal of the number
abbrev pub check_none : Option ℕ → (ℕ → WorkingFault) → Judgement → Judgement
check_none None f r = r
check_none (Some n) f r = Err (f n)

-- a list of one pair more than is left, of open pairs, of which none repeats one in front
abbrev pub check_list : Instance → Tally → List ℕ → List ℕ → Judgement → Judgement
check_list i t front qs r = check_none (first_closed i.opened qs) NotOpen (check_none (first_repeat front qs) Repeated r)

abbrev pub ruled : Instance → Tally → Step → Judgement
ruled i t (idle_link l) =
    check (i.live l) (NotLive l) (
    check (all_pairs i (off_road i l)) (RuleFails l) (
    Ok (weld_link l t)))
ruled i t (dominated_link l h) =
    check (i.live l) (NotLive l) (
    check (i.live h) (NotLive h) (
    check (differ l h) (Repeated h) (
    check (all_pairs i (follows i l h)) (RuleFails l) (
    Ok (weld_link l t)))))
ruled i t (unit_road l p) =
    check (i.live l) (NotLive l) (
    check (i.opened p) (NotOpen p) (
    check (differ t.left 0) (NothingLeft l) (
    check (i.on l p && all_links i (sole_on i l p)) (RuleFails l) (
    Ok (cut_link i l t)))))
ruled i t (dominated_pair q r) =
    check (i.opened q) (NotOpen q) (
    check (i.opened r) (NotOpen r) (
    check (differ q r) (Repeated r) (
    check (all_links i (also_on i q r)) (RuleFails q) (
    Ok (drop_pair r t)))))
ruled i t (common_factor r qs) =
    check (length qs == t.left + 1) (WrongLength (length qs)) (
    check (i.opened r) (NotOpen r) (
    check_list i t (r ∷ []) qs (
    check (pairwise (share_only i (RoadOf r)) qs) (RuleFails r) (
    Ok (drop_pair r t)))))
ruled i t (overloaded_link l qs) =
    check (length qs == t.left + 1) (WrongLength (length qs)) (
    check (i.live l) (NotLive l) (
    check_list i t [] qs (
    check (differ t.left 0) (NothingLeft l) (
    check (list_all (i.on l) qs && pairwise (share_only i (Link l)) qs) (RuleFails l) (
    Ok (cut_link i l t))))))
ruled i t (disjoint_pairs qs) =
    check (length qs == t.left + 1) (WrongLength (length qs)) (
    check_list i t [] qs (
    check (pairwise (share_only i Nothing) qs) (RuleFails (slice_index qs 0)) (
    Ok (end_none t))))

abbrev pub ruled_in : Meaning → Tally → Step → Judgement
ruled_in m t s = ruled (posed (rest m t)) t s

-- what check_list says of the rest
abbrev pub check_list_in : Meaning → Tally → List ℕ → List ℕ → Judgement → Judgement
check_list_in m t front qs r = check_list (posed (rest m t)) t front qs r

abbrev pub is_open : State → Bool
is_open Open = true
is_open NoCut = false
is_open Parted = false

abbrev pub judged : Meaning → Tally → Step → Judgement
judged m t s = check (is_open t.state) Ended (ruled_in m t s)

abbrev pub Outcome : {X : Type 0} → Judgement → Tally → Result X WorkingFault → Tally → Type 0
Outcome j t r u = MatchResult r (λ _. j ≡ Ok u) (λ f. (j ≡ Err f) × (u ≡ t))

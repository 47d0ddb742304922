use Rattle.std.proofs.Common.{◌+◌, [], ◌∷◌, ◌++◌, drop, vec_items, sym, ap, ◌∙◌}
use Rattle.std.proofs.lemmas.Result.{IfOk-weaker}
use Rattle.lines.specs.Numbers.{after_turn, behind, few, scanned}
use Rattle.lines.proofs.Scans.{behind_nothing, scan_all, scan_ends, scan_goes_on, scan_more}
use Rattle.lines.proofs.numbers.read_numbers.Goals as goal
use Rattle.lines.proofs.numbers.read_numbers.Goals.{in-GoesOn, in-Ends+in_ok-push-in-Ends}

pub loop-b-init : goal.loop-b-init
loop-b-init c = ap (λ ns. behind ns (scanned c.args.bytes.now _)) c.new-numbers.ensures.items ∙ behind_nothing _

pub returns-in-Breaks : goal.returns-in-Breaks
returns-in-Breaks c =
    let bs = c.args.bytes.now in
    let i = c.loop-b.b-index in
    let stops = scan_more bs i c.loop-b.scan c.loop-b-test.true ∙ ap (λ t. after_turn t (scanned (drop (i + 1) bs))) (sym c.in-Breaks.ensures) in
    ap few (sym (ap (behind (vec_items c.loop-b.numbers)) stops) ∙ c.loop-b.invariant)

pub loop-b-preserved : goal.loop-b-preserved
loop-b-preserved c =
    let bs = c.args.bytes.now in
    let i = c.loop-b.b-index in
    let ns = vec_items c.loop-b.numbers in
    elim c.match-advance.branch [
      | in-GoesOn w ↦
          ap (λ v. behind (vec_items v) (scanned (drop (i + 1) bs) c.match-advance.scan)) w.numbers-is ∙
          ap (λ s. behind ns (scanned (drop (i + 1) bs) s)) w.scan-is ∙
          scan_goes_on bs i c.loop-b.scan w.in-GoesOn.next ns _ c.loop-b-test.true c.loop-b.invariant w.in-GoesOn.ensures
      | in-Ends+in_ok-push-in-Ends w ↦
          ap (λ v. behind (vec_items v) (scanned (drop (i + 1) bs) c.match-advance.scan)) w.numbers-is ∙
          ap (λ ms. behind ms (scanned (drop (i + 1) bs) c.match-advance.scan)) w.in_ok-push-in-Ends.ensures.items ∙
          ap (λ s. behind (ns ++ (w.in-Ends.n ∷ [])) (scanned (drop (i + 1) bs) s)) w.scan-is ∙
          scan_ends bs i c.loop-b.scan w.in-Ends.next ns _ c.loop-b-test.true c.loop-b.invariant w.in-Ends.n w.in-Ends.ensures
    ]

pub returns : goal.returns
returns c =
    let bs = c.args.bytes.now in
    let all = ap few (sym (ap (behind (vec_items c.loop-b.numbers)) (scan_all bs c.loop-b.b-index c.loop-b.scan c.loop-b-test.false)) ∙ c.loop-b.invariant) in
    IfOk-weaker c.at_end.result _ _ (λ o e. e ∙ all) c.at_end.ensures

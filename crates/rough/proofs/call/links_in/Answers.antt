use Rattle.std.proofs.Common.{[], ◌∷◌, ◌++◌, length, sym, ap, ◌∙◌, add-one, arith}
use Rattle.rough.specs.Arrays.{held}
use Rattle.rough.specs.Run.{rising}
use Rattle.rough.proofs.Rising.{rising_push, rising_short, rising_skip}
use Rattle.rough.proofs.call.links_in.Goals as goal
use Rattle.rough.proofs.call.links_in.Goals.{else-chosen-link, then-chosen-link}

pub push-requires : goal.push-requires
push-requires c =
    omega (arith, ap length c.loop-link.invariant, rising_short (held c.args.chosen.now) c.loop-link.link, c.loop-link-test.true, c.requires)

pub loop-link-preserved : goal.loop-link-preserved
loop-link-preserved c =
    let s = held c.args.chosen.now in
    let n = c.loop-link.link in
    elim c.if-chosen-link.branch [
      | then-chosen-link w ↦ ap (λ v. v.items) w.links-is ∙ w.push.ensures.items ∙ ap (λ xs. xs ++ (n ∷ [])) c.loop-link.invariant ∙ sym (ap (rising s) (add-one n) ∙ rising_push s n w.if-chosen-link.true)
      | else-chosen-link w ↦ ap (λ v. v.items) w.links-is ∙ c.loop-link.invariant ∙ sym (ap (rising s) (add-one n) ∙ rising_skip s n w.if-chosen-link.false)
    ]

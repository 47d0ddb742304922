use Rattle.std.proofs.Common.{◌+◌, ◌-◌, ◌*◌, ◌/◌, ◌%◌, true, sym, ap, ◌∙◌, arith}
use Rattle.std.specs.Int.{from_bool}
use Rattle.book.proofs.Words.{bits_fit, bits_none, bits_step}
use Rattle.book.proofs.filling.word.Goals as goal

pub loop-link-init : goal.loop-link-init
loop-link-init g c = (omega arith, λ f _. sym (bits_none (f (c.args.k / 4)) (c.args.k % 4 * 64 + 64)))

pub overflow_mul-word : goal.overflow_mul-word
overflow_mul-word g c =
    let fit = bits_fit c.loop-link.link c.loop-link-test.true (omega arith) c.loop-link.word true c.loop-link.invariant.0 in
    omega (arith, fit.0, fit.1)

pub overflow_add-word : goal.overflow_add-word
overflow_add-word g c =
    let fit = bits_fit c.loop-link.link c.loop-link-test.true (omega arith) c.loop-link.word c.test.result c.loop-link.invariant.0 in
    omega (arith, fit.0, fit.1, c.from.ensures)

pub loop-link-preserved : goal.loop-link-preserved
loop-link-preserved g c =
    let i = c.loop-link.link in
    let w = c.loop-link.word in
    let q = c.args.k / 4 in
    let from = c.args.k % 4 * 64 in (
      omega (arith, (bits_fit i c.loop-link-test.true (omega arith) w c.test.result c.loop-link.invariant.0).0, c.from.ensures),
      λ f computes.
          ap (λ b. w * 2 + b) (c.from.ensures ∙ ap from_bool (computes q (from + (i - 1)) c.test.result (omega arith) (omega arith) c.test.ensures)) ∙
          ap (λ v. v * 2 + from_bool (f q (from + (i - 1)))) (c.loop-link.invariant.1 f computes) ∙
          sym (bits_step i c.loop-link-test.true (omega arith) (f q) from),
    )

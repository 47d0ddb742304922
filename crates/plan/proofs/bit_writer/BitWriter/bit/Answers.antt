use Rattle.std.proofs.Common.{◌≡◌, ◌-◌, ◌*◌, ◌/◌, ◌%◌, ◌^◌, cond, eqb, get_or, set, sym, refl, ap, ◌∙◌}
use lib.Bits.{bit_or}
use Rattle.std.proofs.lemmas.Bool.{cond-true, cond-false, eq-eqb, ne_eqb}
use Rattle.plan.specs.Writes.{put_bits}
use Rattle.plan.proofs.Puts.{shifted_bit}
use Rattle.plan.proofs.bit_writer.BitWriter.bit.Goals as goal
use Rattle.plan.proofs.bit_writer.BitWriter.bit.Goals.{then-self-eq0, else-self-eq0}

pub returns : goal.returns
unfolding put_bits
returns c =
    let i = c.args.self.now.at in
    let bs = c.args.self.now.bytes.now in
    let old = get_or bs (i / 8) 0 in
    let before : c.if-self-eq0.before ≡ cond (eqb (i % 8) 0) 0 old =
    elim c.if-self-eq0.branch [
      | then-self-eq0 w ↦ w.before-is ∙ sym (cond-true (eqb (i % 8) 0) 0 old (eq-eqb (i % 8) 0 w.if-self-eq0.true))
      | else-self-eq0 w ↦ w.before-is ∙ sym (cond-false (eqb (i % 8) 0) 0 old (ne_eqb (i % 8) 0 w.if-self-eq0.false))
    ] in
    record {
      bytes = ap (λ v. set bs (i / 8) (bit_or c.if-self-eq0.before v)) (shifted_bit c.args.bit i c.requires.one) ∙ ap (λ v. set bs (i / 8) (bit_or v (c.args.bit * 2 ^ (7 - i % 8)))) before;
      place = refl;
      lent = refl;
    }

-- `lines::digits::put_hex` meets its contract: each byte is written as its two signs.
-- The loop's invariant: with the signs of the rest written behind those of the first i bytes, all are written. With i at 0 the rest is
-- all there is; a round stores the two signs of one byte, which are the first of the rest (`signs_goes_on`); at the end the rest is
-- empty (`signs_end`), so all are written. Assumes nothing.
use Rattle.std.proofs.Common.{ℕ, ◌/◌, ◌%◌, ap, ◌∙◌, arith, length-set}
use Rattle.lines.specs.Digits.{sign}
use Rattle.lines.proofs.Hex.{signs_goes_on}
use Rattle.lines.proofs.digits.put_hex.Goals as goal

pub loop-i-preserved : goal.loop-i-preserved
loop-i-preserved c =
    let l = c.loop-i in
    let w = c.from-b in
    (simp length-set (omega arith), signs_goes_on c.args.bytes.now l.out c.args.at l.i (c.sign.ensures ∙ ap (λ (b : ℕ). sign (b / 16)) w.ensures) (c.sign-in-loop-i.ensures ∙ ap (λ (b : ℕ). sign (b % 16)) w.ensures) (omega arith) (omega arith) ∙ l.invariant.1)

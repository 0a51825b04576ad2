-- `lines::digits::decode` meets its contract. The loop's invariant: with the bytes of the rest written behind those of the first i pairs, all are written. Assumes nothing.
use Rattle.std.proofs.Common.{◌∙◌, arith, length-set}
use Rattle.lines.proofs.Hex.{bytes_goes_on, pair_rest}
use Rattle.lines.proofs.digits.decode.Goals as goal

pub loop-i-preserved : goal.loop-i-preserved
loop-i-preserved c =
    let ds = c.args.digits.now in
    let l = c.loop-i in
    (simp length-set (omega arith), pair_rest ds l.i (omega arith) l.invariant.1, bytes_goes_on ds l.out l.i c.pair.ensures (omega arith) (omega arith) ∙ l.invariant.2)

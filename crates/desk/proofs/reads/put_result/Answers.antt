-- `desk::reads::put_result` meets its contract: the word and the data are put one behind the other. Assumes nothing.
use native.Mathlib.Omega.{arith}
use Rattle.octets.specs.Bytes.{bytes2}
use Rattle.lines.specs.Digits.{ascii}
use Rattle.lines.proofs.Written.{put, behind}
use Rattle.desk.specs.Reads.{reply_lines}
use Rattle.desk.proofs.Printing.{two_bytes}
use Rattle.desk.proofs.reads.put_result.Goals as goal

pub returns : goal.returns
unfolding reply_lines ascii bytes2
returns c =
    let p = rw (two_bytes c.args.word c.to_be_bytes-status.ensures) at c.put_bytes-second.ensures in
    let q = c.put_bytes.ensures in
    let w = behind (put p.0 p.1) (put q.0 q.1) in
    (w.memory (omega (arith, p.2, q.2)), omega (arith, p.2, q.2))

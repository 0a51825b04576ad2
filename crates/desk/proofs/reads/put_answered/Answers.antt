-- `desk::reads::put_answered` meets its contract: each way out is what the answer comes to (`answered_lines`). Assumes nothing.
use mathlib.Core.Path.{sym, ◌∙◌}
use native.Mathlib.Nat.{zero-add}
use native.Mathlib.Omega.{arith}
use Rattle.answers.specs.Promised.{AnsweredFits}
use Rattle.lines.specs.Digits.{ascii}
use Rattle.desk.specs.Reads.{answered_lines}
use Rattle.desk.proofs.reads.put_answered.Goals as goal

pub put_read-requires : goal.put_read-requires
unfolding AnsweredFits
put_read-requires c =
    let fits = rw c.in-Ok.is at c.read_answer.ensures.1 in
    let asks = c.requires in
    (omega (arith, fits.first, fits.end), asks.0, asks.1)

pub returns-in-Ok : goal.returns-in-Ok
unfolding answered_lines
returns-in-Ok c =
    rw (sym c.read_answer.ensures.0 ∙ c.in-Ok.is) c.put_read.ensures

pub returns-in-Err : goal.returns-in-Err
unfolding answered_lines ascii
returns-in-Err c =
    let p = c.put_number.ensures in
    rw (sym c.read_answer.ensures.0 ∙ c.in-Err.is) (p.0, p.1 ∙ zero-add _, omega (arith, p.2))

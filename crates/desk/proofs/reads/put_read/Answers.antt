-- `desk::reads::put_read` meets its contract: the count and the results are put one behind the other. Assumes nothing.
use mathlib.Core.Path.{◌∙◌}
use native.Mathlib.Nat.{zero-add}
use native.Mathlib.Omega.{arith}
use Rattle.lines.specs.Digits.{ascii}
use Rattle.lines.proofs.Written.{put, behind}
use Rattle.desk.specs.Reads.{read_lines}
use Rattle.desk.proofs.reads.put_read.Goals as goal

pub returns : goal.returns
unfolding read_lines ascii
returns c =
    let p = c.put_number-to.ensures in
    let q = c.put_results.ensures in
    let w = behind (put p.0 p.1) (put q.0 q.1) in
    (w.memory (omega (arith, q.2, c.requires)), w.place ∙ zero-add _, q.2)

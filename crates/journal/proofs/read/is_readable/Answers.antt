-- `journal::read::is_readable` meets its contract. Assumes nothing.
use mathlib.Core.Path.{◌∙◌}
use native.Mathlib.Nat.{add-sub_cancel_left}
use native.Mathlib.Omega.{arith}
use Rattle.journal.specs.Entries.{tail_bytes}
use Rattle.journal.proofs.Tested.{readable-not, readable-by_form}
use Rattle.journal.proofs.read.is_readable.Goals as goal

pub returns-then-u-lt-TAIL_SIZE : goal.returns-then-u-lt-TAIL_SIZE
returns-then-u-lt-TAIL_SIZE c = readable-not c.args.journal.now c.args.u (omega arith)

pub returns-then-u-tail : goal.returns-then-u-tail
returns-then-u-tail c =
    let a = c.args in
    readable-not a.journal.now a.u (rw c.tail_at-tail.ensures.0 at c.if-u-tail.true)

pub returns : goal.returns
unfolding tail_bytes
returns c =
    let a = c.args in
    c.tail_formed.ensures
    ∙ rw add-sub_cancel_left (readable-by_form a.journal.now a.u (rw c.tail_at-tail.ensures.0 at c.if-u-tail.false))

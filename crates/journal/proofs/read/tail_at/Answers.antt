-- `journal::read::tail_at` meets its contract: the lent part is the tail. Assumes nothing.
use mathlib.Core.Path.{◌∙◌}
use native.Mathlib.Nat.{add-sub_cancel_left}
use Rattle.journal.specs.Entries.{tail_at, tail_bytes}
use Rattle.journal.proofs.read.tail_at.Goals as goal

pub returns : goal.returns
unfolding tail_at tail_bytes
returns c = (c.tail_of.ensures.0 ∙ rw add-sub_cancel_left, c.tail_of.ensures.1)

-- `journal::write::kind_for` meets its contract, memory by memory. Assumes nothing.
use mathlib.Core.Path.{sym, ap}
use Rattle.journal.specs.Changes.{kind_for}
use Rattle.journal.proofs.write.kind_for.Goals as goal

pub returns-in-Files : goal.returns-in-Files
unfolding kind_for
returns-in-Files c = sym (ap kind_for c.in-Files.is)

pub returns-in-Table : goal.returns-in-Table
unfolding kind_for
returns-in-Table c = sym (ap kind_for c.in-Table.is)

-- `compact::read::compact_case` meets its contract: each arm is the one that the definition picks. Assumes nothing.
use Rattle.octets.specs.Choice.{pick}
use Rattle.compact.specs.Compact.{compact_case}
use Rattle.compact.proofs.read.compact_case.Goals as goal

pub returns-then-case-p3 : goal.returns-then-case-p3
unfolding compact_case pick
returns-then-case-p3 c = rw (← c.case_of-case.ensures, c.if-case-p3.true)

pub returns : goal.returns
unfolding compact_case pick
returns c = rw (← c.case_of-case.ensures, c.if-case-p3.false)

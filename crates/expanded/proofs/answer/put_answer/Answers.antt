-- `expanded::answer::put_answer` meets its contract: each arm is the one that the definition picks. Assumes nothing.
use Rattle.octets.specs.Choice.{pick}
use Rattle.expanded.specs.Expanded.{answer_bytes}
use Rattle.expanded.proofs.answer.put_answer.Goals as goal

pub returns-then-definite : goal.returns-then-definite
unfolding answer_bytes pick
returns-then-definite c = rw c.if-definite.true c.put_definite.ensures

pub returns : goal.returns
unfolding answer_bytes pick
returns c = rw c.if-definite.false c.put_indefinite.ensures

-- `engine::numbers::detected` meets its contract: each arm is the one that the definition picks. Assumes nothing.
use Rattle.octets.specs.Choice.{pick}
use Rattle.engine.specs.Numbers.{detected}
use Rattle.engine.proofs.numbers.detected.Goals as goal

pub returns-then-script : goal.returns-then-script
unfolding detected pick
returns-then-script c = rw c.if-script.true

pub returns : goal.returns
unfolding detected pick
returns c = rw c.if-script.false

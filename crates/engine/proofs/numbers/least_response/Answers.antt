-- `engine::numbers::least_response` meets its contract in each format. Assumes nothing.
use Rattle.engine.specs.Numbers.{least_response}
use Rattle.engine.proofs.numbers.least_response.Goals as goal

pub returns-in-Compact : goal.returns-in-Compact
unfolding least_response
returns-in-Compact c = rw c.in-Compact.is

pub returns-in-Expanded : goal.returns-in-Expanded
unfolding least_response
returns-in-Expanded c = rw c.in-Expanded.is

-- `compact::read::data_behind` meets its contract: each arm is the one that the definition picks. Assumes nothing.
use native.Mathlib.Omega.{arith}
use Rattle.octets.proofs.Picks.{choices}
use Rattle.compact.specs.Compact.{data_behind}
use Rattle.compact.proofs.read.data_behind.Goals as goal

pub returns-then-carries_data : goal.returns-then-carries_data
unfolding data_behind
returns-then-carries_data c = (search choices, omega arith)

pub returns : goal.returns
unfolding data_behind
returns c = (search choices, omega arith)

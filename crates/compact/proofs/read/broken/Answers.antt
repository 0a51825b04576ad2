-- `compact::read::broken` meets its contract. Assumes nothing.
use mathlib.Core.Path.{refl}
use Rattle.compact.specs.Compact.{broken}
use Rattle.compact.proofs.read.broken.Goals as goal

pub returns : goal.returns
unfolding broken
returns c = refl

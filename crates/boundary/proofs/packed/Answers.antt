-- `boundary::packed` meets its contract. Assumes nothing.
use mathlib.Core.Path.{refl}
use Rattle.boundary.specs.Packed.{packed}
use Rattle.boundary.proofs.packed.Goals as goal

pub returns : goal.returns
unfolding packed
returns c = refl

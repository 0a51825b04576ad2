-- `engine::numbers::script_fits` meets its contract. Assumes nothing.
use mathlib.Core.Path.{refl}
use Rattle.engine.specs.Numbers.{script_fits}
use Rattle.engine.proofs.numbers.script_fits.Goals as goal

pub returns : goal.returns
unfolding script_fits
returns c = refl

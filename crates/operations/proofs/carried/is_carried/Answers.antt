-- `operations::carried::is_carried` meets its contract: a read has the tests of its kind, and no format carries an operation of another kind.
-- Assumes nothing.
use mathlib.Core.Path.{refl}
use native.Mathlib.Omega.{arith}
use Rattle.octets.specs.Choice.{pick}
use Rattle.operations.specs.Carried.{mode_fits, bytes_fit}
use Rattle.operations.proofs.Carrying.{reads-carried, none_carried}
use Rattle.operations.proofs.carried.is_carried.Goals as goal

pub returns-in-3 : goal.returns-in-3
unfolding mode_fits bytes_fit pick
returns-in-3 c = reads-carried _ _ _ _ 3 c.in-3.is refl refl refl c.wanted_fits.ensures

pub returns-in-5 : goal.returns-in-5
unfolding mode_fits bytes_fit pick
returns-in-5 c = reads-carried _ _ _ _ 5 c.in-5.is refl c.record_fits-in-5.ensures refl c.wanted_fits-in-5.ensures

pub returns-in_default : goal.returns-in_default
returns-in_default c = grind (arith, none_carried)

-- `command::ends::put_data` meets its contract: an outcome without data writes nothing, which is a write of no bytes. Assumes nothing.
use mathlib.Core.Path.{refl}
use native.Mathlib.Omega.{arith}
use Rattle.octets.proofs.Writes.{write-none}
use Rattle.command.specs.Outcomes.{data_of}
use Rattle.command.proofs.ends.put_data.Goals as goal

pub returns-in-Well : goal.returns-in-Well
unfolding data_of
returns-in-Well c = rw (c.in-Well.is, write-none c.args.out.now c.args.at) (refl, omega arith)

pub returns-in-Error : goal.returns-in-Error
unfolding data_of
returns-in-Error c = rw (c.in-Error.is, write-none c.args.out.now c.args.at) (refl, omega arith)

-- `journal::read::room_of` meets its contract. Assumes nothing.
use mathlib.Core.Path.{refl}
use Rattle.journal.specs.Entries.{room}
use Rattle.journal.proofs.read.room_of.Goals as goal

pub returns : goal.returns
unfolding room
returns c = refl

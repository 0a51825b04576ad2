-- `plan::search::note` meets its contract: a number that was found is one byte that is written. Assumes nothing.
use mathlib.Core.Path.{refl}
use Rattle.octets.specs.Choice.{pick}
use Rattle.octets.proofs.Writes.{set-write}
use Rattle.plan.specs.Files.{noted}
use Rattle.plan.proofs.search.note.Goals as goal

pub returns-then-found : goal.returns-then-found
unfolding noted pick
returns-then-found c = rw c.if-found.true (set-write c.args.out.now c.args.n c.args.number c.requires.0, refl)

-- `lines::worked::worked_files` meets its contract: the filled memory is the card's, by computation. Assumes nothing.
use Rattle.std.proofs.Common.{refl}
use Rattle.engine.specs.Worked.{worked}
use Rattle.lines.proofs.worked.worked_files.Goals as goal

pub returns : goal.returns
unfolding worked
returns c = rw (c.fill.ensures.after (λ y e. e)) (refl, refl)

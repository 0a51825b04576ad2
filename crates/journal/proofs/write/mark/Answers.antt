-- `journal::write::mark` meets its contract: a mark has no old bytes. Assumes nothing.
use native.Mathlib.Omega.{arith}
use Rattle.journal.proofs.Pushed.{own_used, own_scripts}
use Rattle.journal.proofs.Steps.{mark_steps}
use Rattle.journal.proofs.write.mark.Goals as goal

pub overflow_add-next : goal.overflow_add-next
overflow_add-next c = omega (arith, own_scripts _ c.head_of-head.ensures.0, c.requires.1)

pub close-requires : goal.close-requires
close-requires c = omega (arith, own_used _ c.head_of-head.ensures.0, c.requires.0)

pub returns : goal.returns
returns c =
    mark_steps c.args.journal.now c.head_of-head.ensures.0 c.requires.0 c.close.ensures.0

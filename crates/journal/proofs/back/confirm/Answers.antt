-- `journal::back::confirm` meets its contract: a confirmation cuts the journal back to nothing. Assumes nothing.
use native.Mathlib.Omega.{arith}
use Rattle.journal.proofs.Pushed.{own_used}
use Rattle.journal.proofs.Steps.{confirm_steps}
use Rattle.journal.proofs.back.confirm.Goals as goal

pub fill-requires : goal.fill-requires
fill-requires c =
    omega (arith, own_used _ c.head_of-head.ensures.0)

pub returns : goal.returns
returns c =
    confirm_steps c.args.journal.now c.head_of-head.ensures.0 c.requires.0 c.requires.1 c.put_head.ensures c.fill.ensures

-- `expanded::answer::put_indefinite` meets its contract: the answer's parts are written one behind another. Assumes nothing.
use Rattle.expanded.proofs.Written.{indefinite-written}
use Rattle.expanded.proofs.answer.put_indefinite.Goals as goal

pub returns : goal.returns
returns c =
    indefinite-written c.args.response.now c.args.rapdus.now c.requires.0 c.requires.1 c.copy.ensures c.copy-2.ensures c.fill.ensures

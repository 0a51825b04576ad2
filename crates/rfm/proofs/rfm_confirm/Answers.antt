-- `rfm::rfm_confirm` meets its contract. Assumes nothing.
use Rattle.engine.specs.Numbers.{answer_of}
use Rattle.rfm.proofs.Crossing.{crossing}
use Rattle.rfm.proofs.rfm_confirm.Goals as goal

pub returns : goal.returns
returns c =
    crossing (answer_of c.confirm.result) c.confirm.ensures.1 _ _ _ _ c.confirm.ensures.0 c.packed_answer.ensures

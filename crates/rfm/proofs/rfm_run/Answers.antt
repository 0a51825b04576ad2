-- `rfm::rfm_run` meets its contract: the three memories are those of the card that was lent on, since they stay the same memories. Assumes nothing.
use mathlib.Core.Path.{sym, ◌∙◌}
use Rattle.card.specs.Row.{lent}
use Rattle.engine.specs.Numbers.{answer_of}
use Rattle.engine.specs.Calls.{gives}
use Rattle.rfm.proofs.Crossing.{crossing}
use Rattle.rfm.proofs.rfm_run.Goals as goal

pub returns : goal.returns
returns c =
    let s = c.run.ensures.stays in
    let t = c.table-1.given.1.1 (sym s.table) in
    let f = c.files-1.given.1.1 (sym s.files) in
    let j = c.journal-1.given.1.1 (sym s.journal) in
    crossing (answer_of c.run.result) c.run.ensures.ran.1 (lent _ _ _) c.run.new.response _ _
    ((λ i. gives (answer_of c.run.result) (lent (t i) (f i) (j i)) c.run.new.response) ∙ c.run.ensures.ran.0)
    c.packed_answer.ensures

-- `lines::worked::run_on_worked` meets its contract: the memories that are made are those of the worked card, and the journal is that of the
-- card that was lent on. Assumes nothing.
use Rattle.std.proofs.Common.{sym, ap, arith, ◌∙◌}
use Rattle.engine.specs.declared.Answer.{Answer}
use Rattle.engine.specs.Calls.{Result}
use Rattle.lines.specs.Calls.{run_on_worked}
use Rattle.lines.proofs.Answers.{answer-fits, ran}
use Rattle.lines.proofs.worked.run_on_worked.Goals as goal

pub returns-clause-answer : goal.returns-clause-answer
unfolding run_on_worked
returns-clause-answer c =
    c.from.ensures ∙ ap (λ (r : Result). r.answer) (ran _ _ _ _ _ c.worked_table-table.ensures.0 c.worked_files-files.ensures.0 c.run.ensures.ran.0)

pub returns-clause-response : goal.returns-clause-response
unfolding run_on_worked
returns-clause-response c =
    ap (λ (r : Result). r.response) (ran _ _ _ _ _ c.worked_table-table.ensures.0 c.worked_files-files.ensures.0 c.run.ensures.ran.0)

pub returns-clause-journal : goal.returns-clause-journal
unfolding run_on_worked
returns-clause-journal c =
    c.journal-1.given.1.1 (sym c.run.ensures.stays.journal)
    ∙ ap (λ (r : Result). r.card.journal) (ran _ _ _ _ _ c.worked_table-table.ensures.0 c.worked_files-files.ensures.0 c.run.ensures.ran.0)

pub returns-clause-length : goal.returns-clause-length
returns-clause-length c =
    omega (arith, answer-fits _ _ _ c.run.ensures.ran.0, c.run.auto.response, ap (λ (a : Answer). a.length) c.from.ensures)

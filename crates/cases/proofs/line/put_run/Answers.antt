-- `cases::line::put_run` meets its contract: what the run gives is what is put.
-- The answer's length is at most that of the response memory, and `in_use` promises the like for the journal, so both first parts may be
-- lent and put. A label with the run's numbers and these bytes is the line of the run (`run_line_lem`). Assumes nothing.
use mathlib.Core.Path.{ap, ◌∙◌}
use lib.ListN.{length}
use lib.Seq.{length-take-le}
use Rattle.octets.specs.Bytes.{overwrite}
use Rattle.engine.specs.declared.Answer.{Answer}
use Rattle.cases.proofs.Ran.{run_line_lem}
use native.Mathlib.Omega.{arith}
use Rattle.cases.proofs.line.put_run.Goals as goal

pub put_labelled-requires : goal.put_labelled-requires
put_labelled-requires c =
    let l = length-take-le c.run_on_worked-answer.result.length c.run_on_worked-answer.new.response (omega (arith, c.run_on_worked-answer.ensures.length, c.run_on_worked-answer.auto.response)) in
    let k = length-take-le c.in_use-k.result c.run_on_worked-answer.new.journal c.in_use-k.ensures.1 in
    record { room = omega arith; label_short = omega arith; response_short = omega arith; journal_short = omega arith }

pub returns : goal.returns
returns c =
    let a = c.args in
    let r = c.run_on_worked-answer.ensures in
    let l = run_line_lem a.label.now _ _ _ _ _ _ _ (ap (λ (x : Answer). x.number) r.answer) (ap (λ (x : Answer). x.count) r.answer) (ap (λ (x : Answer). x.length) r.answer) r.response r.journal c.in_use-k.ensures.0 in
    let p = c.put_labelled.ensures in
    (p.0 ∙ ap (overwrite a.out.now 0) l, p.1 ∙ ap length l, p.2)

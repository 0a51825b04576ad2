-- `worked::runs::put_run` meets its contract: what the run gives is what is printed. Assumes nothing.
use mathlib.Core.Path.{ap, ◌∙◌}
use lib.ListN.{length}
use lib.Seq.{length-take-le}
use Rattle.octets.specs.Bytes.{overwrite}
use Rattle.engine.specs.declared.Answer.{Answer}
use Rattle.worked.proofs.Shape.{lines_are}
use native.Mathlib.Omega.{arith}
use Rattle.worked.proofs.runs.put_run.Goals as goal

pub put_lines-requires : goal.put_lines-requires
put_lines-requires c =
    let r = c.run_on_worked-answer in
    let l = length-take-le r.result.length r.new.response (omega (arith, r.ensures.length, r.auto.response)) in
    (omega arith, omega arith, omega arith)

pub returns : goal.returns
returns c =
    let a = c.args in
    let r = c.run_on_worked-answer.ensures in
    let l = lines_are a.call a.script.now (ap (λ (x : Answer). x.number) r.answer) (ap (λ (x : Answer). x.count) r.answer) (ap (λ (x : Answer). x.length) r.answer) r.response r.journal in
    let p = c.put_lines.ensures in
    (p.0 ∙ ap (overwrite a.out.now 0) l, p.1 ∙ ap length l, p.2)

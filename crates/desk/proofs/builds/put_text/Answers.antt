-- `desk::builds::put_text` meets its contract: what is printed is that of the first line and of the list behind it. Assumes nothing.
use mathlib.Core.Path.{ap, ◌∙◌}
use lib.ListN.{length}
use Rattle.octets.specs.Bytes.{overwrite}
use Rattle.lines.specs.Digits.{ascii}
use Rattle.desk.specs.Builds.{listed_lines}
use Rattle.desk.proofs.Printing.{printed-bad, printed-list}
use native.Mathlib.Omega.{arith}
use Rattle.desk.proofs.builds.put_text.Goals as goal

pub returns-in_default : goal.returns-in_default
unfolding ascii
returns-in_default c =
    let a = c.args in
    let e = printed-bad a.text.now c.number_at.ensures.0 c.in_default.is in
    let p = c.put_bad_line.ensures in
    (p.0 ∙ ap (overwrite a.out.now 0) e, p.1 ∙ ap length e, omega (arith, p.2))

pub returns-in-Ok : goal.returns-in-Ok
unfolding listed_lines ascii
returns-in-Ok c =
    let a = c.args in
    let e = printed-list a.text.now c.number_at.ensures.0 _ _ c.in-Some.is c.in-Ok.ensures.0 in
    let p = c.put_built.ensures in
    (p.0 ∙ ap (overwrite a.out.now 0) e, p.1 ∙ ap length e, p.2)

pub returns-in-Err : goal.returns-in-Err
unfolding listed_lines ascii
returns-in-Err c =
    let a = c.args in
    let e = printed-list a.text.now c.number_at.ensures.0 _ _ c.in-Some.is c.in-Err.ensures.0 in
    let p = c.put_bad_line-in-Err.ensures in
    (p.0 ∙ ap (overwrite a.out.now 0) e, p.1 ∙ ap length e, omega (arith, p.2))

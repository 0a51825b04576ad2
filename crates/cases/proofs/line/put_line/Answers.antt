-- `cases::line::put_line` meets its contract: the line of the case that was read, or that there is none.
-- What `case_of` gives is what the definition reads (`printed-bad`, `printed-case`), so what is put down is what is printed of it; that label
-- and digits may be taken as parts of the line is what `case_of` promises of a case. Assumes nothing.
use mathlib.Core.Path.{sym, ap, ◌∙◌}
use native.Mathlib.Omega.{arith}
use lib.ListN.{length}
use Rattle.octets.specs.Bytes.{overwrite}
use Rattle.lines.specs.Digits.{ascii}
use Rattle.cases.specs.Cases.{printed_of}
use Rattle.cases.proofs.Shape.{case_shaped, printed-bad, printed-case}
use Rattle.cases.proofs.line.put_line.Goals as goal

pub returns-in_default : goal.returns-in_default
unfolding printed_of ascii
returns-in_default c =
    let e = printed-bad _ c.case_of.ensures.0 c.in_default.is in
    (c.copy.ensures ∙ ap (overwrite c.args.out.now 0) (sym e), sym (ap length e), omega arith)

pub put_case-requires : goal.put_case-requires
put_case-requires c = (omega arith, case_shaped _ _ c.in-Some.ensures.1)

pub returns : goal.returns
returns c =
    let e = printed-case _ _ c.case_of.ensures.0 c.in-Some.is in
    let p = c.put_case.ensures in
    (p.0 ∙ ap (overwrite c.args.out.now 0) e, p.1 ∙ ap length e, p.2)

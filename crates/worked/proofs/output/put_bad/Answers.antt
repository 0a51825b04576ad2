-- `worked::output::put_bad` meets its contract: the ten bytes are the line. Assumes nothing.
use mathlib.Core.Path.{refl}
use Rattle.lines.specs.Digits.{ascii}
use Rattle.worked.specs.Printed.{bad_line}
use native.Mathlib.Omega.{arith}
use Rattle.worked.proofs.output.put_bad.Goals as goal

pub returns : goal.returns
unfolding bad_line ascii
returns c = (c.copy.ensures, refl, omega arith)

-- `expanded::capdu::fifth` meets its contract. Assumes nothing.
use mathlib.Core.Path.{sym}
use native.Mathlib.Omega.{arith}
use lib.ListN.{get_or-eq_default}
use Rattle.expanded.proofs.capdu.fifth.Goals as goal

pub returns : goal.returns
returns c = (sym (get_or-eq_default c.args.capdu.now 0 {n = 4} c.if-capdu-gt4.false), omega arith)

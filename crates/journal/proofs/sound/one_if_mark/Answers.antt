-- `journal::sound::one_if_mark` meets its contract. Assumes nothing.
use mathlib.Core.Path.{refl}
use native.Mathlib.Omega.{arith}
use Rattle.octets.proofs.Picks.{eq_yes, eq_no}
use Rattle.journal.proofs.sound.one_if_mark.Goals as goal

pub returns-then-kind-eq-MARKS_START : goal.returns-then-kind-eq-MARKS_START
returns-then-kind-eq-MARKS_START c = (eq_yes c.args.kind 1 0 c.if-kind-eq-MARKS_START.true refl, omega arith)

pub returns : goal.returns
returns c = (eq_no c.args.kind 1 1 c.if-kind-eq-MARKS_START.false refl, omega arith)

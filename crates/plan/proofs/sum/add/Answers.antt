-- `plan::sum::add` meets its contract. The loop's invariant: after i digits the sum's last i bytes are written, and the carry is what is left of it. Assumes nothing.
use native.Mathlib.Omega.{arith}
use Rattle.plan.proofs.Digits.{begins, goes_on_lem}
use Rattle.plan.proofs.sum.add.Goals as goal

pub loop-i-init : goal.loop-i-init
loop-i-init c = begins _ _ _

pub loop-i-preserved : goal.loop-i-preserved
loop-i-preserved c =
    goes_on_lem _ _ _ c.requires.1 _ _ _ c.loop-i.invariant _ _ (omega arith) c.from_right.ensures.0 c.from_right-in-loop-i.ensures.0 c.from_right.ensures.1 c.from_right-in-loop-i.ensures.1

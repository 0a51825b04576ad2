-- `step::limit::rapdu_size` meets its contract. Assumes nothing.
use native.Mathlib.Omega.{arith}
use Rattle.step.specs.Limits.{rapdu_size}
use Rattle.step.proofs.limit.rapdu_size.Goals as goal

pub returns : goal.returns
unfolding rapdu_size
returns c = (rw c.length_size.ensures.0, omega arith)

-- `session::fcp::record_descriptor` meets its contract. Assumes nothing.
use native.Mathlib.Omega.{arith}
use Rattle.session.proofs.Template.{linear_descriptor, cyclic-descriptor}
use Rattle.session.proofs.fcp.record_descriptor.Goals as goal

pub returns-then-r-eq-LINEAR : goal.returns-then-r-eq-LINEAR
returns-then-r-eq-LINEAR c = linear_descriptor _ (omega arith)

pub returns : goal.returns
returns c = cyclic-descriptor _ (omega arith)

-- `expanded::run::step_bad` meets its contract. Assumes nothing.
use native.Mathlib.Omega.{arith}
use Rattle.expanded.specs.Expanded.{bad_format}
use Rattle.expanded.proofs.Steps.{bad_last}
use Rattle.expanded.proofs.run.step_bad.Goals as goal

pub returns : goal.returns
unfolding bad_format
returns c =
    let put = c.put_bad-place in
    (λ card. bad_last c.args.before card c.args.out.now (omega arith) c.args.code (omega arith) put.ensures.0 (omega arith), omega arith)

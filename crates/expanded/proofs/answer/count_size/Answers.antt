-- `expanded::answer::count_size` meets its contract. Assumes nothing.
use mathlib.Core.Path.{ap}
use native.Mathlib.Omega.{arith}
use lib.ListN.{length}
use Rattle.octets.specs.Bytes.{bytes2}
use Rattle.expanded.proofs.Written.{count-one, count-two}
use Rattle.expanded.proofs.answer.count_size.Goals as goal

pub returns-then-n-lt128 : goal.returns-then-n-lt128
returns-then-n-lt128 c = (ap length (count-one _ c.if-n-lt128.true), omega arith)

pub returns : goal.returns
unfolding bytes2
returns c = (ap length (count-two _ c.if-n-lt128.false), omega arith)

-- `expanded::answer::put_count` meets its contract: each way writes the bytes of the count. Assumes nothing.
use mathlib.Core.Path.{refl}
use Rattle.octets.specs.Bytes.{bytes2}
use Rattle.tlv.proofs.Written.{named}
use Rattle.expanded.proofs.Written.{count-one, count-two}
use Rattle.expanded.proofs.answer.put_count.Goals as goal

pub returns-then-n-lt128 : goal.returns-then-n-lt128
returns-then-n-lt128 c =
    named c.args.out.now c.args.at 1 (count-one _ c.if-n-lt128.true) refl c.fill.ensures

pub returns : goal.returns
unfolding bytes2
returns c =
    named c.args.out.now c.args.at 2 (count-two _ c.if-n-lt128.false) refl c.put_num.ensures

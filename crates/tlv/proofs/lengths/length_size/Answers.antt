-- `tlv::lengths::length_size` meets its contract. Assumes nothing.
use mathlib.Core.Path.{ap}
use native.Mathlib.Omega.{arith}
use lib.ListN.{length}
use Rattle.octets.specs.Bytes.{bytes2}
use Rattle.tlv.proofs.Written.{length-one, length_two, length_three}
use Rattle.tlv.proofs.lengths.length_size.Goals as goal

pub returns-then-n-lt128 : goal.returns-then-n-lt128
returns-then-n-lt128 c = (ap length (length-one _ c.if-n-lt128.true), omega arith)

pub returns-then-n-lt256 : goal.returns-then-n-lt256
returns-then-n-lt256 c = (ap length (length_two _ c.if-n-lt128.false c.if-n-lt256.true), omega arith)

pub returns : goal.returns
unfolding bytes2
returns c = (ap length (length_three _ c.if-n-lt128.false c.if-n-lt256.false), omega arith)

-- `tlv::lengths::put_length` meets its contract: each way writes the bytes of the length. Assumes nothing.
use mathlib.Core.Path.{refl}
use Rattle.octets.specs.Bytes.{bytes2}
use Rattle.tlv.proofs.Written.{length-one, length_two, length_three, named}
use Rattle.tlv.proofs.lengths.put_length.Goals as goal

pub returns-then-n-lt128 : goal.returns-then-n-lt128
returns-then-n-lt128 c =
    named c.args.out.now c.args.at 1 (length-one c.args.n c.if-n-lt128.true) refl c.fill.ensures

pub returns-then-n-lt256 : goal.returns-then-n-lt256
returns-then-n-lt256 c =
    named c.args.out.now c.args.at 2 (length_two c.args.n c.if-n-lt128.false c.if-n-lt256.true) refl c.copy.ensures

pub returns : goal.returns
unfolding bytes2
returns c =
    named c.args.out.now c.args.at 3 (length_three c.args.n c.if-n-lt128.false c.if-n-lt256.false) refl (rw c.bytes2.ensures at c.copy-2.ensures)

-- `journal::write::write` meets its contract: an entry of the old bytes, and then a write in a lent part, which is a write in the whole. Assumes nothing.
use Prim.Native.Nat.{◌+◌, ◌-◌}
use native.Mathlib.Omega.{arith}
use lib.ListN.{length}
use Rattle.octets.specs.Bytes.{part}
use Rattle.octets.proofs.Writes.{part-lent, part_length, write_in-part}
use Rattle.journal.specs.Changes.{kind_for}
use Rattle.journal.proofs.Steps.{write-pushed, write-head}
use Rattle.journal.proofs.write.write.Goals as goal

pub returns : goal.returns
returns c =
    let memory = c.args.memory.now in
    let place = c.args.start + c.args.offset in
    let n = length c.args.new.now in
    let fits = c.requires in
    let inside = part_length memory place n (omega arith) in
    let first = rw (part-lent memory place n) at c.copy.ensures in
    let second = rw c.kind_for-kind.ensures at c.close-next.ensures in (
      write_in-part memory c.args.start (c.args.start + c.args.size - c.args.start) c.args.offset c.args.new.now c.copy-2.ensures (omega arith) (omega arith),
      write-pushed c.args.journal.now (part memory place n) (kind_for c.args.which) place n fits.head fits.short inside fits.left first second,
      write-head c.args.journal.now (part memory place n) (kind_for c.args.which) place n fits.head fits.short inside fits.left first second,
    )

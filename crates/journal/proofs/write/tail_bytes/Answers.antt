-- `journal::write::tail_bytes` meets its contract. Assumes nothing.
use Rattle.octets.specs.Bytes.{bytes2}
use Rattle.journal.specs.Entries.{tail}
use Rattle.journal.proofs.write.tail_bytes.Goals as goal

pub returns : goal.returns
unfolding tail bytes2
returns c = rw (c.bytes2.ensures, c.bytes2-2.ensures)

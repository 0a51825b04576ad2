-- `journal::read::tail_formed` meets its contract: the other bytes of a tail are what is read from them. Assumes nothing.
use Rattle.journal.proofs.Tested.{formed_test}
use Rattle.journal.proofs.read.tail_formed.Goals as goal

pub returns : goal.returns
returns c = formed_test c.args.bytes.now c.requires (λ i. (c.shared_slice_known-3-1.given i).fits)

-- `journal::read::head_of` meets its contract, field by field. Assumes nothing.
use Rattle.octets.specs.Bytes.{byte}
use Rattle.journal.specs.Entries.{head, used_bytes, scripts_on_trial, flag_of}
use Rattle.journal.proofs.read.head_of.Goals as goal

pub returns : goal.returns
unfolding used_bytes scripts_on_trial flag_of
returns c =
    let j = c.args.journal.now in
    (λ i. head (c.num_at.ensures.0 i) (byte j 2) (byte j 3), c.num_at.ensures.1)

-- `journal::read::tail_of` meets its contract: field by field what `wide` and `num_at` ensure. Assumes nothing.
use Rattle.journal.specs.Entries.{tail_in}
use Rattle.journal.proofs.read.tail_of.Goals as goal

pub returns : goal.returns
unfolding tail_in
returns c = (
  λ i. record { kind = c.wide.ensures.0 i; place = c.num_at.ensures.0 i; size = c.num_at-2.ensures.0 i },
  record { kind = c.wide.ensures.1; place = c.num_at.ensures.1; size = c.num_at-2.ensures.1 },
)

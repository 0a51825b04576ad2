-- `compact::read::whole_at` meets its contract: each byte is what `wide` gives back. Assumes nothing.
use Rattle.compact.specs.Compact.{whole_at}
use Rattle.compact.proofs.read.whole_at.Goals as goal

pub returns : goal.returns
unfolding whole_at
returns c =
    rw (c.compact_case.ensures, c.wide-2.ensures.0, c.wide.ensures.0, c.wide-p3.ensures.0, c.wide-p2.ensures.0)

-- `compact::read::read_at` meets its contract. Assumes nothing.
use native.Mathlib.Omega.{arith}
use Rattle.compact.proofs.Readings.{no_header, broken-fits, no_data_lem, whole, whole-fits}
use Rattle.compact.proofs.read.read_at.Goals as goal

pub returns-then-script-at-lt-HEADER_SIZE : goal.returns-then-script-at-lt-HEADER_SIZE
returns-then-script-at-lt-HEADER_SIZE c =
    (no_header c.args.script.now c.args.at (omega arith) c.broken.ensures, broken-fits c.args.script.now c.args.at c.requires c.broken.ensures)

pub returns-then-script-at : goal.returns-then-script-at
returns-then-script-at c =
    (no_data_lem c.args.script.now c.args.at c.wide-i.ensures.0 c.wide.ensures.0 c.data_behind-size.ensures.0 (omega arith) (omega arith) c.broken-then-script-at.ensures, broken-fits c.args.script.now c.args.at c.requires c.broken-then-script-at.ensures)

pub returns : goal.returns
returns c =
    (whole c.args.script.now c.args.at c.wide-i.ensures.0 c.wide.ensures.0 c.data_behind-size.ensures.0 (omega arith) (omega arith) c.whole_at.ensures, whole-fits c.args.script.now c.args.at _ _ c.whole_at.ensures (omega arith) (omega arith) (λ i. (c.shared_slice_known-1.given i).fits))

-- `operations::writing::put_all` meets its contract. The loop's invariant: with the operations that are left written at the place, all are
-- written. Assumes nothing.
use mathlib.Core.Path.{◌∙◌}
use native.Mathlib.Omega.{arith}
use Rattle.operations.proofs.Going.{starts, ends, here-carried, here-fits, goes_on_lem}
use Rattle.operations.proofs.writing.put_all.Goals as goal

pub loop-i-init : goal.loop-i-init
loop-i-init c = starts c.operations_in-i-end.ensures c.requires.1 c.requires.2

pub counted-requires : goal.counted-requires
counted-requires c = (here-carried c.loop-i.invariant (omega arith) c.operation_at.ensures.0).count

pub put_operation-place-requires : goal.put_operation-place-requires
put_operation-place-requires c =
    let is = c.counted.ensures ∙ c.operation_at.ensures.0 in
    (here-carried c.loop-i.invariant (omega arith) is, here-fits c.loop-i.invariant (omega arith) is)

pub loop-i-preserved : goal.loop-i-preserved
loop-i-preserved c =
    let is = c.counted.ensures ∙ c.operation_at.ensures.0 in
    let put = c.put_operation-place.ensures in
    goes_on_lem c.loop-i.invariant (omega arith) is put.0 put.1

pub returns : goal.returns
returns c = ends c.loop-i.invariant (omega arith)

-- `journal::back::restore_to_mark` meets its contract. The loop's invariant: what is left to give back from here is the whole of it. The measure is what is left of the entries' bytes. Assumes nothing.
use native.Mathlib.Omega.{arith}
use Rattle.journal.proofs.Entries.{readable-fits}
use Rattle.journal.proofs.GivenBack.{back_starts, back_readable, back_long, back_inside, mark-card, mark-bytes, back_goes_on}
use Rattle.journal.proofs.back.restore_to_mark.Goals as goal

pub loop-tail-init : goal.loop-tail-init
loop-tail-init c = back_starts c.args.table.now c.args.files.now c.args.journal.now c.args.used c.requires.1 c.requires.2

pub tail_at-tail-requires : goal.tail_at-tail-requires
tail_at-tail-requires c = omega (arith, back_long c.loop-tail.invariant c.requires.0)

pub overflow_sub-result : goal.overflow_sub-result
overflow_sub-result c =
    back_long c.loop-tail.invariant c.requires.0

pub shape_of-table-then-tail-eq-MARKS_START : goal.shape_of-table-then-tail-eq-MARKS_START
shape_of-table-then-tail-eq-MARKS_START c = c.loop-tail.invariant.same-table

pub shape_of-files-then-tail-eq-MARKS_START : goal.shape_of-files-then-tail-eq-MARKS_START
shape_of-files-then-tail-eq-MARKS_START c = c.loop-tail.invariant.same-files

pub returns-then-tail-eq-MARKS_START : goal.returns-then-tail-eq-MARKS_START
returns-then-tail-eq-MARKS_START c =
    let g = c.loop-tail.invariant in
    let k = rw c.tail_at-tail.ensures.0 at c.if-tail-eq-MARKS_START.true in
    (mark-card g c.requires.0 k, mark-bytes g c.requires.0 k, omega (arith, back_long g c.requires.0))

pub restore_one-requires : goal.restore_one-requires
restore_one-requires c =
    let g = c.loop-tail.invariant in
    (omega arith, back_readable g c.requires.0, back_inside g c.requires.0 c.tail_at-tail.ensures.0 c.if-tail-eq-MARKS_START.false)

pub overflow_sub-u : goal.overflow_sub-u
overflow_sub-u c =
    let g = c.loop-tail.invariant in
    readable-fits _ _ c.tail_at-tail.ensures.0 (back_readable g c.requires.0)

pub loop-tail-smaller : goal.loop-tail-smaller
loop-tail-smaller c =
    let g = c.loop-tail.invariant in
    omega (arith, back_long g c.requires.0)

pub loop-tail-preserved : goal.loop-tail-preserved
loop-tail-preserved c =
    let g = c.loop-tail.invariant in
    let r = c.restore_one in
    back_goes_on g c.requires.0 c.tail_at-tail.ensures.0 c.if-tail-eq-MARKS_START.false r.auto.table r.auto.files r.ensures

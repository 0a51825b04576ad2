-- `operations::carried::measure` meets its contract. The loop's invariant: the first operation that is not carried is among those that are
-- left from i on, and the bytes so far and those of the operations that are left are the whole. Assumes nothing.
use mathlib.Core.Path.{sym, ap, ◌∙◌}
use native.Mathlib.Omega.{arith}
use lib.ListN.{length}
use Rattle.std.proofs.lemmas.Bool.{not_from_true, not_from_false}
use Rattle.operations.specs.Carried.{number_of, first_not_carried}
use Rattle.operations.specs.Sizes.{all_size, Measures}
use Rattle.operations.proofs.Left.{all_left, few}
use Rattle.operations.proofs.Carrying.{all-carried, goes_on_lem, stops_here}
use Rattle.operations.proofs.Counted.{written_within, size_ends, size-goes_on}
use Rattle.operations.proofs.carried.measure.Goals as goal

pub loop-i-init : goal.loop-i-init
loop-i-init c =
    let format = number_of c.args.format in
    let l = all_left c.args.list.now _ c.operations_in-n.ensures in
    record {
      first = ap (first_not_carried format c.args.size 1) l;
      sized = omega (arith, ap (all_size format) l);
      small = omega arith;
    }

pub returns-then-not-is_carried : goal.returns-then-not-is_carried
unfolding Measures
returns-then-not-is_carried c =
    let is = c.operation_at-o.ensures.0 in
    let here = stops_here _ _ _ _ _ (omega arith) is c.is_carried.ensures (not_from_false _ c.if-not-is_carried.true) in
    (here ∙ c.loop-i.invariant.first, omega arith, omega (arith, few (length c.args.list.now) c.requires))

pub overflow_add-written : goal.overflow_add-written
overflow_add-written c =
    let f = few (length c.args.list.now) c.requires in
    let w = written_within (number_of c.args.format) c.operation_at-o.result in
    omega (arith, c.loop-i.invariant.small)

pub loop-i-preserved : goal.loop-i-preserved
loop-i-preserved c =
    let format = number_of c.args.format in
    let is = c.operation_at-o.ensures.0 in
    let on = goes_on_lem _ _ _ _ _ (omega arith) is c.is_carried.ensures (not_from_true _ c.if-not-is_carried.false) in
    let more = size-goes_on format c.args.list.now c.operations_in-n.result c.loop-i.i (omega arith) is c.written_size-written.ensures in
    let w = written_within format c.operation_at-o.result in
    record {
      first = on ∙ c.loop-i.invariant.first;
      sized = omega (arith, c.loop-i.invariant.sized);
      small = omega (arith, c.loop-i.invariant.small);
    }

pub returns : goal.returns
unfolding Measures
returns c =
    let format = number_of c.args.format in
    let f = few (length c.args.list.now) c.requires in
    let none = size_ends format c.args.list.now c.operations_in-n.result c.loop-i.i (omega arith) in
    (sym c.loop-i.invariant.first ∙ all-carried format c.args.size c.args.list.now _ _ (omega arith), omega (arith, c.loop-i.invariant.sized), omega (arith, c.loop-i.invariant.small))

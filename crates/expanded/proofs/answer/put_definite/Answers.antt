-- `expanded::answer::put_definite` meets its contract: the answer's parts are written one behind another.
-- The parts are the tag, the length, the count's tag and length, the count, and the R-APDUs. Each is written at the place where the
-- one before it ended, so the five writes are one write of the answer (`definite-written`). There is always room: a length takes at
-- most three bytes (`few`), the count at most two, the R-APDUs at most 1,004, and the response memory has 1,024. Assumes nothing.
use native.Mathlib.Omega.{arith}
use Prim.Native.Nat.{◌+◌, ◌≤◌}
use lib.ListN.{length}
use Rattle.tlv.specs.Lengths.{length_bytes}
use Rattle.tlv.proofs.Written.{length-few}
use Rattle.expanded.proofs.Written.{definite-written}
use Rattle.expanded.proofs.answer.put_definite.Goals as goal
use Rattle.expanded.proofs.answer.put_definite.Lts as lts
use Rattle.expanded.proofs.answer.put_definite.Reads as reads
use Rattle.expanded.proofs.answer.put_definite.Tie as tie

abbrev After-count_size : Type 0
After-count_size = lts.After-count_size tie.the-claims reads.Pre reads.Post

-- the length of what stands behind the first length takes at most three bytes
few : (k : After-count_size) → length (length_bytes (2 + (k.count_size-size.result + length k.args.rapdus.now))) ≤ 3
few k = length-few (2 + (k.count_size-size.result + length k.args.rapdus.now))

pub copy-requires : goal.copy-requires
copy-requires c =
    omega (arith, few c.before.before.before.before.before.before.before.before.before.before.before)

pub overflow_add-at : goal.overflow_add-at
overflow_add-at c =
    omega (arith, few c.before.before.before.before.before.before.before.before.before.before.before.before.before.before.before)

pub put_count-from-requires : goal.put_count-from-requires
put_count-from-requires c =
    omega (arith, few c.before.before.before.before.before.before.before.before.before.before.before.before.before.before.before)

pub copy-requires-2 : goal.copy-requires-2
copy-requires-2 c =
    omega (arith, few c.before.before.before.before.before.before.before.before.before.before.before.before.before.before.before.before.before.before.before)

pub overflow_add-result : goal.overflow_add-result
overflow_add-result c =
    omega (arith, few c.before.before.before.before.before.before.before.before.before.before.before.before.before.before.before.before.before.before.before.before.before.before)

pub returns : goal.returns
returns c =
    let n = c.count_size-size in
    let l = c.put_length-at in
    let k = c.put_count-from in
    definite-written c.args.response.now c.args.count c.args.rapdus.now c.requires.0 c.requires.1 n.ensures.0
    c.fill.ensures l.ensures.0 l.ensures.1 c.copy.ensures k.ensures.0 k.ensures.1 c.copy-2.ensures

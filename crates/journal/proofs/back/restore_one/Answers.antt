-- `journal::back::restore_one` meets its contract: the lent part of the journal is the entry's old bytes, and its kind names the
-- memory that they came from.
-- The code reads the tail, tests its kind and copies. An entry that can be read is no longer than the
-- bytes that it is the end of (`no_longer`), so its old bytes lie in the journal where the code takes them. Both ways go by the
-- same laws of `GivenBack`: the test tells the memory (`from-table`, `from_files`), the old bytes fit into it (`fits_back`), and
-- the copy is what giving the entry back does (`given_back`). Assumes nothing.
use mathlib.Core.Path.{refl}
use Prim.Native.Nat.{◌≤◌}
use native.Mathlib.Omega.{arith}
use Rattle.card.specs.Row.{Card, lent}
use Rattle.journal.specs.Entries.{entry_bytes}
use Rattle.journal.specs.Changes.{memory_of, with_memory}
use Rattle.journal.proofs.Entries.{readable-fits}
use Rattle.journal.proofs.GivenBack.{from-table, from_files, fits_back, given_back}
use Rattle.journal.proofs.back.restore_one.Goals as goal
use Rattle.journal.proofs.back.restore_one.Lts as lts
use Rattle.journal.proofs.back.restore_one.Reads as reads
use Rattle.journal.proofs.back.restore_one.Tie as tie

abbrev Start : Type 0
Start = lts.Start tie.the-claims reads.Pre reads.Post

abbrev After-tail_at : Type 0
After-tail_at = lts.After-tail_at tie.the-claims reads.Pre reads.Post

abbrev whole : Start → Card
whole s = lent s.args.table.now s.args.files.now s.args.journal.now

pub tail_at-tail-requires : goal.tail_at-tail-requires
tail_at-tail-requires c = omega (arith, readable-fits c.args.journal.now c.args.u refl c.requires.1)

no_longer : (c : After-tail_at) → entry_bytes c.tail_at-tail.result.size ≤ c.args.u
no_longer c = readable-fits _ _ c.tail_at-tail.ensures.0 c.requires.1

pub overflow_sub-at : goal.overflow_sub-at
overflow_sub-at c = omega (arith, no_longer c.before.before)

pub slice_bounds-copy-end : goal.slice_bounds-copy-end
slice_bounds-copy-end c = omega (arith, no_longer c.before.before.before.before.before.before)

pub copy-requires : goal.copy-requires
unfolding memory_of
copy-requires c =
    let e = c.tail_at-tail.ensures.0 in
    fits_back c.args.journal.now c.args.u e (whole c.before.before.before.before.before.before.before.before.before.before.before) (from-table c.args.journal.now c.args.u e c.if-tail-eq-HOLDS_TABLE_BYTE.true) c.requires.2

pub returns-then-tail-eq-HOLDS_TABLE_BYTE : goal.returns-then-tail-eq-HOLDS_TABLE_BYTE
unfolding memory_of with_memory
returns-then-tail-eq-HOLDS_TABLE_BYTE c =
    let e = c.tail_at-tail.ensures.0 in
    given_back c.args.journal.now c.args.u e (whole c.before.before.before.before.before.before.before.before.before.before.before.before.before.before) (from-table c.args.journal.now c.args.u e c.if-tail-eq-HOLDS_TABLE_BYTE.true) c.copy.ensures

pub slice_bounds-copy-end-2 : goal.slice_bounds-copy-end-2
slice_bounds-copy-end-2 c = omega (arith, no_longer c.before.before.before.before.before.before)

pub copy-requires-2 : goal.copy-requires-2
unfolding memory_of
copy-requires-2 c =
    let e = c.tail_at-tail.ensures.0 in
    fits_back c.args.journal.now c.args.u e (whole c.before.before.before.before.before.before.before.before.before.before.before) (from_files c.args.journal.now c.args.u e c.if-tail-eq-HOLDS_TABLE_BYTE.false) c.requires.2

pub returns : goal.returns
unfolding memory_of with_memory
returns c =
    let e = c.tail_at-tail.ensures.0 in
    given_back c.args.journal.now c.args.u e (whole c.before.before.before.before.before.before.before.before.before.before.before.before.before.before) (from_files c.args.journal.now c.args.u e c.if-tail-eq-HOLDS_TABLE_BYTE.false) c.copy-2.ensures

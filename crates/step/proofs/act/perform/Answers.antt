-- `step::act::perform` meets its contract: in each arm, what the change's fitting tells of it, and then its writes.
-- In an arm the change is known, and with it what was asked of it (`Known`): its places lie in the memories (`fits`), and the journal
-- has room for its entries (`left`). That, and the head that was read from the journal, is what `write` and `write_record` ask. What
-- they leave is one write (`one-write`, `table-write`) or the two of a record, and `steps` goes back from the writes of the known
-- change to those of the one that was asked for. A sum is the first bytes of what was made, which are as many as a record has
-- (`sum_long`). Assumes nothing.
use mathlib.Core.Path.{◌≡◌, refl}
use mathlib.Core.List.{List}
use Prim.Native.Nat.{ℕ, ◌+◌}
use native.Mathlib.Omega.{arith}
use lib.ListN.{length, take}
use lib.Seq.{length-take-le}
use Rattle.card.specs.Lent.{held}
use Rattle.card.specs.Row.{Card}
use Rattle.journal.specs.declared.Memory.TheVariants.{Files}
use Rattle.journal.specs.Promised.{HasRoom}
use Rattle.journal.specs.Changes as changes
use Rattle.journal.proofs.Pushed.{own_used}
use Rattle.plan.specs.Promised.{writes_of, Fits}
use Rattle.plan.specs.declared.NewRecord.{NewRecord}
use Rattle.plan.specs.declared.Change.{Change}
use Rattle.plan.specs.declared.Change.TheVariants.{SumRecord}
use Rattle.session.specs.Session.{most_waiting}
use Rattle.step.specs.Promised.{PerformAsks}
use Rattle.step.proofs.Acts.{known_fits, known_left, known_steps, one-write, table-write}
use Rattle.step.proofs.act.perform.Goals as goal

-- an arm's change: it fits, the journal has room for it, and its writes are those asked
module _ {k : Card} {change other : Change} {«data» made : List ℕ} (asks : PerformAsks k change «data» made) (same : change ≡ other) where
  fits : Fits (length k.table) (length k.files) (length «data») other
  fits = known_fits same «data» made (length k.table) (length k.files) asks.fits

  left : HasRoom k.journal (changes.cost (writes_of other «data» made))
  left = known_left same «data» made k.journal asks.left

  steps : {d : Card} → d ≡ changes.perform (writes_of other «data» made) k → d ≡ changes.perform (writes_of change «data» made) k
  steps = known_steps same «data» made k

-- a sum stands at the start of what was made
sum_long : {k : Card} {change : Change} {«data» made : List ℕ} → PerformAsks k change «data» made → length made ≡ most_waiting → (r : NewRecord) → change ≡ SumRecord r → length (take r.record_length made) ≡ r.record_length
unfolding Fits
sum_long {made = made} asks whole r same = length-take-le r.record_length made (omega (arith, (fits asks same).1, whole))

pub head_of-head-requires : goal.head_of-head-requires
head_of-head-requires c = let h = c.requires.left in omega arith

pub write-requires : goal.write-requires
unfolding Fits changes.cost writes_of
write-requires c =
    let f = fits c.requires c.in-Content.is in
    let own = c.head_of-head.ensures.0 in
    record { inside = f.0; within = f.1; head = own; short = omega (arith, c.requires.short); left = omega (arith, left c.requires c.in-Content.is, own_used _ own) }

pub write_record-requires : goal.write_record-requires
unfolding Fits writes_of
write_record-requires c =
    let f = fits c.requires c.in-DataRecord.is in
    record { fits = f.0; whole = f.1; head = c.head_of-head.ensures.0; short = omega (arith, c.requires.short); left = left c.requires c.in-DataRecord.is }

pub shared_ref_as_front-write_record : goal.shared_ref_as_front-write_record
unfolding Fits
shared_ref_as_front-write_record c = (fits c.requires c.in-SumRecord.is).1

pub write_record-requires-in-SumRecord : goal.write_record-requires-in-SumRecord
unfolding Fits writes_of
write_record-requires-in-SumRecord c =
    let same = c.in-SumRecord.is in
    record { fits = (fits c.requires same).0; whole = sum_long c.requires (omega arith) c.in-SumRecord.r same; head = c.head_of-head.ensures.0; short = omega (arith, c.requires.short); left = left c.requires same }

pub overflow_cast-byte : goal.overflow_cast-byte
unfolding Fits
overflow_cast-byte c = omega (arith, (fits c.requires c.in-TableByte.is).1)

pub write-requires-in-TableByte : goal.write-requires-in-TableByte
unfolding Fits changes.cost writes_of
write-requires-in-TableByte c =
    let same = c.in-TableByte.is in
    let own = c.head_of-head.ensures.0 in
    record { inside = omega (arith, (fits c.requires same).0); within = omega arith; head = own; short = omega (arith, c.requires.short); left = omega (arith, left c.requires same, own_used _ own) }

pub returns-in-Nothing-clause-performed : goal.returns-in-Nothing-clause-performed
unfolding changes.perform writes_of
returns-in-Nothing-clause-performed c = steps c.requires c.in-Nothing.is refl

pub returns-in-Content-clause-performed : goal.returns-in-Content-clause-performed
unfolding changes.perform writes_of changes.with_memory changes.with_journal changes.memory_of
returns-in-Content-clause-performed c =
    let w = c.write.ensures in
    steps c.requires c.in-Content.is (one-write Files (held c.args.card.now) (c.in-Content.start + c.in-Content.offset) c.args.«data».now w.0 w.1)

pub returns-in-DataRecord-clause-performed : goal.returns-in-DataRecord-clause-performed
unfolding writes_of
returns-in-DataRecord-clause-performed c = steps c.requires c.in-DataRecord.is c.write_record.ensures.written

pub returns-in-SumRecord-clause-performed : goal.returns-in-SumRecord-clause-performed
unfolding writes_of
returns-in-SumRecord-clause-performed c = steps c.requires c.in-SumRecord.is c.write_record-in-SumRecord.ensures.written

pub returns-in-TableByte-clause-performed : goal.returns-in-TableByte-clause-performed
unfolding changes.perform writes_of
returns-in-TableByte-clause-performed c =
    let w = c.write-in-TableByte.ensures in
    let k = held c.args.card.now in
    steps c.requires c.in-TableByte.is (table-write k.table k.files k.journal c.in-TableByte.place c.in-TableByte.new refl w.0 w.1)

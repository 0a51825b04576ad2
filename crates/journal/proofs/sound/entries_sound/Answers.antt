-- `journal::sound::entries_sound` meets its contract. The loop's invariant: what is left of the test, from here back, is the whole
-- of it.
-- With u bytes left, `marks` marks were counted, and u and `marks` are together no more than `used`, as each entry takes at least 8
-- bytes; so the count stays small. Each way out of a step is one law of `Tested`: no entry can be read (`sound_stuck`), the entry
-- is not sound (`sound-fails`), or the loop goes on with the bytes before it, which are fewer (`sound-goes_on`); with no bytes left
-- the count and the oldest entry decide (`sound_ends`). Assumes nothing.
use mathlib.Core.Path.{◌≡◌, refl}
use mathlib.Core.Bool.{true}
use native.Mathlib.Omega.{arith}
use Rattle.octets.proofs.Picks.{told-true}
use Rattle.journal.specs.Entries.{readable, entries_back}
use Rattle.journal.proofs.Entries.{readable-fits}
use Rattle.journal.proofs.Tested.{sound-starts, sound_ends, sound_stuck, sound-fails, sound-goes_on}
use Rattle.octets.proofs.Picks.{told}
use Rattle.std.proofs.lemmas.Bool.{not_from_true}
use Rattle.journal.proofs.sound.entries_sound.Goals as goal
use Rattle.journal.proofs.sound.entries_sound.Lts as lts
use Rattle.journal.proofs.sound.entries_sound.Reads as reads
use Rattle.journal.proofs.sound.entries_sound.Tie as tie

abbrev Else1 : Type 0
Else1 = lts.Else1 tie.the-claims reads.Pre reads.Post goal.the-invariant-loop-u goal.the-decreases-loop-u

pub loop-u-init : goal.loop-u-init
loop-u-init c = let a = c.args in (omega arith, sound-starts a.table.now a.files a.scripts (entries_back a.used a.journal.now a.used))

pub returns-then-not-is_readable : goal.returns-then-not-is_readable
returns-then-not-is_readable c =
    let a = c.args in
    let l = c.loop-u in
    sound_stuck a.table.now a.files a.scripts a.journal.now l.u l.marks l.oldest l.invariant.1 c.loop-u-test.true (told c.is_readable.ensures c.if-not-is_readable.true)

can_read : (c : Else1) → readable c.args.journal.now c.loop-u.u ≡ true
can_read c = told-true c.is_readable.ensures (not_from_true _ c.if-not-is_readable.false)

pub entry_sound-requires : goal.entry_sound-requires
entry_sound-requires c = (omega arith, can_read c.before)

pub returns-then-not-entry_sound : goal.returns-then-not-entry_sound
returns-then-not-entry_sound c =
    let a = c.args in
    let l = c.loop-u in
    sound-fails a.table.now a.files a.scripts a.journal.now l.u l.marks l.oldest l.invariant.1 (can_read c.before.before.before) (told c.entry_sound.ensures c.if-not-entry_sound.true)

pub tail_at-tail-requires : goal.tail_at-tail-requires
tail_at-tail-requires c =
    let a = c.args in
    let u = c.loop-u.u in
    omega (arith, readable-fits a.journal.now u refl (can_read c.before.before.before))

pub one_if_mark-marks-requires : goal.one_if_mark-marks-requires
one_if_mark-marks-requires c = tt

pub overflow_sub-u : goal.overflow_sub-u
overflow_sub-u c = readable-fits _ _ c.tail_at-tail.ensures.0 (can_read c.before.before.before.before.before.before.before)

pub loop-u-preserved : goal.loop-u-preserved
loop-u-preserved c =
    let a = c.args in
    let l = c.loop-u in
    let h = can_read c.before.before.before.before.before.before.before in (
      omega (arith, readable-fits a.journal.now l.u c.tail_at-tail.ensures.0 h),
      sound-goes_on a.table.now a.files a.scripts a.journal.now l.u l.marks l.oldest l.invariant.1 h (told c.entry_sound.ensures c.if-not-entry_sound.false) c.tail_at-tail.ensures.0 c.one_if_mark-marks.ensures.0,
    )

pub returns : goal.returns
returns c =
    let a = c.args in
    let l = c.loop-u in
    sound_ends a.table.now a.files a.scripts a.journal.now l.u l.marks l.oldest l.invariant.1 (omega arith)

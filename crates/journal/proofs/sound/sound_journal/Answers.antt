-- `journal::sound::sound_journal` meets its contract, test by test.
-- The definition compares the head with the bytes that it should be, the code asks field by field; for a journal of the right
-- length both are the same tests joined by and (`journal_test`). So an early return shows the one test that is false, and at the
-- last return the tests before are known to hold and `entries_sound` gives the rest. The points of the walk are the reading of the
-- head and what each test leaves (`at_else2`, `at_else3`, `Else4`); `used-inside` is the bound that the later calls ask for.
-- Assumes nothing.
use mathlib.Core.Path.{◌≡◌, ◌∙◌}
use mathlib.Core.Bool.{and-false}
use mathlib.Core.List.{List}
use Prim.Native.Nat.{ℕ, ◌+◌, ◌≤◌}
use native.Mathlib.Omega.{arith}
use borrow.Author.Tests.{eq-eqb, ne_eqb, le-leb, lt-leb}
use borrow.Author.Rules.{rules}
use lib.ListN.{length}
use Rattle.octets.proofs.Picks.{told-false, told-true}
use Rattle.journal.specs.Entries.{head_size, head_of, used_bytes, scripts_on_trial, flag_of, room}
use Rattle.journal.specs.Sound.{most_scripts, sound_journal}
use Rattle.journal.proofs.Pushed.{own_used, own_scripts, own_flag}
use Rattle.journal.proofs.Tested.{journal_tests, journal_short_lem, journal_test, rest_test, entries_test}
use Rattle.std.proofs.lemmas.Bool.{not_from_true, not_from_false}
use Rattle.journal.proofs.sound.sound_journal.Goals as goal
use Rattle.journal.proofs.sound.sound_journal.Lts as lts
use Rattle.journal.proofs.sound.sound_journal.Reads as reads
use Rattle.journal.proofs.sound.sound_journal.Tie as tie

abbrev After-head_of : Type 0
After-head_of = lts.After-head_of tie.the-claims reads.Pre reads.Post

abbrev After-shared_slice_known3 : Type 0
After-shared_slice_known3 = lts.After-shared_slice_known3 tie.the-claims reads.Pre reads.Post

abbrev Else4 : Type 0
Else4 = lts.Else4 tie.the-claims reads.Pre reads.Post

abbrev Else3 : Type 0
Else3 = lts.Else3 tie.the-claims reads.Pre reads.Post

abbrev Else2 : Type 0
Else2 = lts.Else2 tie.the-claims reads.Pre reads.Post

pub returns-then-journal-ne-JOURNAL_LENGTH : goal.returns-then-journal-ne-JOURNAL_LENGTH
returns-then-journal-ne-JOURNAL_LENGTH c = let a = c.args in journal_short_lem a.table.now a.files.now a.journal.now c.if-journal-ne-JOURNAL_LENGTH.true

-- what is known once the head is read
module _ (k : After-head_of) where
  abbrev known : After-shared_slice_known3
  known = k.before.before

  abbrev table : List ℕ
  table = known.args.table.now

  abbrev files : List ℕ
  files = known.args.files.now

  abbrev journal : List ℕ
  journal = known.args.journal.now

  tests : sound_journal table files journal ≡ journal_tests table files journal
  tests = journal_test table files journal (omega (arith, k.if-journal-ne-JOURNAL_LENGTH.false)) (λ i. (known.shared_slice_known-3-1.given i).fits)

  own : k.head_of-head.result ≡ head_of journal
  own = k.head_of-head.ensures.0

pub returns-then-head-ne0 : goal.returns-then-head-ne0
returns-then-head-ne0 c =
    rw (tests c.before.before.before, ne_eqb (flag_of (journal c.before.before.before)) 0 (λ z. c.if-head-ne0.true (own_flag (journal c.before.before.before) (own c.before.before.before) ∙ z)))

pub returns-then-room_of-used : goal.returns-then-room_of-used
returns-then-room_of-used c =
    rw (tests c.before.before.before.before.before, lt-leb (used_bytes (journal c.before.before.before.before.before)) (room (journal c.before.before.before.before.before)) (omega (arith, own_used (journal c.before.before.before.before.before) (own c.before.before.before.before.before), c.room_of.ensures, c.if-room_of-used.true))) (simp and-false)

pub returns-then-scripts-gt-MOST_SCRIPTS : goal.returns-then-scripts-gt-MOST_SCRIPTS
returns-then-scripts-gt-MOST_SCRIPTS c =
    rw (tests c.before.before.before.before.before.before.before, lt-leb (scripts_on_trial (journal c.before.before.before.before.before.before.before)) most_scripts (omega (arith, own_scripts (journal c.before.before.before.before.before.before.before) (own c.before.before.before.before.before.before.before), c.wide-scripts.ensures.0, c.if-scripts-gt-MOST_SCRIPTS.true))) (simp and-false)

-- past the first four tests
module _ (o : Else4) where
  abbrev at_else3 : Else3
  at_else3 = o.before.before

  abbrev at_else2 : Else2
  at_else2 = at_else3.before.before

  abbrev at_head_of : After-head_of
  at_head_of = at_else2.before.before

  used-inside : head_size + at_head_of.head_of-head.result.used ≤ length (journal at_head_of)
  unfolding room
  used-inside = omega (arith, at_else3.room_of.ensures, at_else3.if-room_of-used.false, at_head_of.if-journal-ne-JOURNAL_LENGTH.false)

  flag_zero : flag_of (journal at_head_of) ≡ 0
  flag_zero = omega (arith, own_flag (journal at_head_of) (own at_head_of), at_else2.if-head-ne0.false)

  used-few : used_bytes (journal at_head_of) ≤ room (journal at_head_of)
  used-few = omega (arith, own_used (journal at_head_of) (own at_head_of), at_else3.room_of.ensures, at_else3.if-room_of-used.false)

  scripts_told : o.wide-scripts.result ≡ scripts_on_trial (journal at_head_of)
  scripts_told = o.wide-scripts.ensures.0 ∙ own_scripts (journal at_head_of) (own at_head_of)

  scripts_few : scripts_on_trial (journal at_head_of) ≤ most_scripts
  scripts_few = omega (arith, scripts_told, o.if-scripts-gt-MOST_SCRIPTS.false)

pub slice_bounds-all_zero-count : goal.slice_bounds-all_zero-count
slice_bounds-all_zero-count c = let h = used-inside c.before in search rules

pub slice_bounds-all_zero-start : goal.slice_bounds-all_zero-start
slice_bounds-all_zero-start c = let h = used-inside c.before in search rules

pub returns-then-not-all_zero : goal.returns-then-not-all_zero
returns-then-not-all_zero c =
    let k = at_head_of c.before.before.before.before in
    rw (tests k, told-false (rest_test (journal k) (own_used (journal k) (own k)) c.all_zero.ensures) (not_from_false _ c.if-not-all_zero.true)) (simp and-false)

pub entries_sound-requires : goal.entries_sound-requires
entries_sound-requires c = used-inside c.before.before.before.before

pub returns : goal.returns
returns c =
    let k = at_head_of c.before.before.before.before.before in
    let j = journal k in
    let used = own_used j (own k) in
    rw (tests k, eq-eqb (flag_of j) 0 (flag_zero c.before.before.before.before.before), le-leb (used_bytes j) (room j) (used-few c.before.before.before.before.before), le-leb (scripts_on_trial j) most_scripts (scripts_few c.before.before.before.before.before), told-true (rest_test j used c.all_zero.ensures) (not_from_true _ c.if-not-all_zero.false))
    (entries_test (table k) (files k) j used (scripts_told c.before.before.before.before.before) c.entries_sound.ensures)

-- `card::sound::sound_table` meets its contract: a table that fails a test is not sound, since soundness promises the test. Assumes nothing.
use mathlib.Core.Path.{◌≡◌, sym}
use mathlib.Core.Bool.{Bool, true, false, and-false}
use mathlib.Core.List.{List}
use Prim.Native.Nat.{ℕ, ◌%◌, ◌≤◌}
use native.Mathlib.Omega.{arith}
use borrow.Author.Tests.{eq-eqb, le-leb}
use lib.ListN.{length}
use Rattle.octets.proofs.Picks.{refuted}
use Rattle.card.specs.Row.{entries, row_of}
use Rattle.card.specs.Sound.{entries_sound, pairs_sound, lengths_sound, sound_by, sound_table}
use Rattle.card.proofs.Promises.{whole-entries, some-entries, few-entries, some_bytes, few_bytes}
use Rattle.octets.proofs.Picks.{told}
use Rattle.card.proofs.sound.sound_table.Goals as goal

passed : (t files : List ℕ) {p : Bool} → length t % 16 ≡ 0 → 1 ≤ entries t → entries t ≤ 64 → 1 ≤ length files → length files ≤ 32768 → entries_sound (entries t) (length files) (row_of t) ≡ true → p ≡ pairs_sound (entries t) (row_of t) → p ≡ sound_table t files
unfolding sound_table sound_by lengths_sound
passed t files w s f m n e p =
    rw (eq-eqb (length t % 16) 0 w, le-leb 1 (entries t) s, le-leb (entries t) 64 f, le-leb 1 (length files) m, le-leb (length files) 32768 n, e) p

unsound : (t files : List ℕ) → (sound_table t files ≡ true → ⊥) → false ≡ sound_table t files
unsound t files h = sym (refuted (sound_table t files) h)

pub returns-then-table-ne0 : goal.returns-then-table-ne0
returns-then-table-ne0 c = unsound _ _ (λ s. let h = whole-entries _ _ s in omega arith)

pub returns-then-n-lt1 : goal.returns-then-n-lt1
returns-then-n-lt1 c = unsound _ _ (λ s. let h = some-entries _ _ s in omega arith)

pub returns-then-n-gt-MOST_ENTRIES : goal.returns-then-n-gt-MOST_ENTRIES
returns-then-n-gt-MOST_ENTRIES c = unsound _ _ (λ s. let h = few-entries _ _ s in omega arith)

pub returns-then-files-lt1 : goal.returns-then-files-lt1
returns-then-files-lt1 c =
    unsound _ _ (λ s. let h = some_bytes _ _ s in omega arith)

pub returns-then-files-gt-MOST_FILE_BYTES : goal.returns-then-files-gt-MOST_FILE_BYTES
returns-then-files-gt-MOST_FILE_BYTES c =
    unsound _ _ (λ s. let h = few_bytes _ _ s in omega arith)

pub returns-then-not-entries_sound : goal.returns-then-not-entries_sound
unfolding sound_table sound_by
returns-then-not-entries_sound c = rw (told c.entries_sound.ensures c.if-not-entries_sound.true) (simp and-false)

pub returns : goal.returns
returns c = passed _ _ (omega arith) (omega arith) (omega arith) (omega arith) (omega arith) (told c.entries_sound.ensures c.if-not-entries_sound.false) c.pairs_sound.ensures

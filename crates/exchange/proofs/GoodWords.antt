-- The words that a command can end with are words that the reader takes, in the format's own list; and a word with data is one of those
-- that can stand behind data. Assumes nothing.
use Prim.Native.Nat.{ℕ, ◌/◌, ◌%◌, ◌≤◌, ◌<◌}
use mathlib.Core.Path.{◌≡◌, refl}
use mathlib.Core.Bool.{Bool, true, false, ◌&&◌, ◌||◌}
use mathlib.Core.Logic.{⊎_elim}
use native.Mathlib.Omega.{arith}
use lib.Dec.{ltb}
use borrow.Author.Tests.{ltb-true, le-leb, eq-eqb}
use Rattle.octets.proofs.Picks.{and_left, and_right, and_both}
use Rattle.command.specs.declared.Format.{Format}
use Rattle.command.specs.declared.Format.TheVariants.{Compact, Expanded}
use Rattle.command.specs.declared.checks.Check.{Check}
use Rattle.command.specs.declared.checks.Check.TheVariants.{BrokenForm, UnknownInstruction, WrongClass, BytesAfter, WrongCase, WrongParameters, WrongDomain, WrongPathLength, NotFound, NothingWaits, MoreThanWaits, NoFile, WrongKind, WrongMode, Deactivated, Never, OffsetOutside, NoRecord, WrongLength, SumTooLong, JournalFull, AnswerTooLong}
use Rattle.command.specs.declared.Outcome.{Outcome}
use Rattle.command.specs.declared.Outcome.TheVariants.{Well, FromFiles, FromWaiting, Error}
use Rattle.command.specs.Checks.{check_word}
use Rattle.command.specs.Outcomes.{word_of, data_count}
use Rattle.command.proofs.Says.{EndsWell, Waits, Says}
use Rattle.answers.specs.declared.words.Words.{Words}
use Rattle.answers.specs.declared.words.Words.TheVariants as words
use Rattle.answers.specs.Words.{has_data, is_common, is_word, begins_common, begins_word}

-- the words of a format
unfoldable pub words_of : Format → Words
words_of Compact = words.Compact
words_of Expanded = words.Expanded

-- a word that is taken: it is in the list, its first byte begins one, and it has two bytes
pub record Known (format : Format) (w : ℕ) : Type 0 where
  pub word : is_word (words_of format) w ≡ true
  pub begins : begins_word (words_of format) (w / 256 % 256) ≡ true
  pub small : w < 65536

-- the same of the words of both formats, as one test
unfoldable common : ℕ → Bool
common w = is_common w && (begins_common (w / 256 % 256) && ltb w 65536)

or_second : (a b : Bool) → b ≡ true → (a || b) ≡ true
or_second true b e = refl
or_second false b e = e

common_word : (format : Format) (w : ℕ) → is_common w ≡ true → is_word (words_of format) w ≡ true
unfolding words_of is_word
common_word Compact w h = rw h
common_word Expanded w h = rw h

common_begins : (format : Format) (b : ℕ) → begins_common b ≡ true → begins_word (words_of format) b ≡ true
unfolding words_of begins_word
common_begins Compact b h = rw h
common_begins Expanded b h = rw h

common_known : (format : Format) (w : ℕ) → common w ≡ true → Known format w
unfolding common
common_known format w h =
    let rest = and_right (is_common w) _ h in
    record {
      word = common_word format w (and_left (is_common w) _ h);
      begins = common_begins format (w / 256 % 256) (and_left (begins_common (w / 256 % 256)) _ rest);
      small = ltb-true w 65536 (and_right (begins_common (w / 256 % 256)) _ rest);
    }

well_common : (w : ℕ) → EndsWell w → common w ≡ true
unfolding common is_common begins_common
well_common w = ⊎_elim (λ e. rw e) (⊎_elim (λ e. rw e) (λ e. rw e))

well_data : (w : ℕ) → EndsWell w → has_data w ≡ true
well_data w = ⊎_elim (λ e. rw e) (⊎_elim (λ e. rw e) (λ e. rw e))

-- "report 61 and the length"
waits_known : (w : ℕ) → Waits w → Known Compact w
unfolding words_of is_word begins_word
waits_known w h =
    let n = h.least in
    let m = h.most in
    let e = h.told in
    record {
      word = or_second (is_common w) _ (and_both _ _ (le-leb 0x6101 w (omega arith)) (le-leb w 0x61FF (omega arith)));
      begins = or_second (begins_common (w / 256 % 256)) _ (eq-eqb (w / 256 % 256) 0x61 (omega arith));
      small = omega arith;
    }

-- "gets 6F00"
too_long : Known Expanded 0x6F00
unfolding words_of is_word is_common begins_word begins_common
too_long = record { word = refl; begins = refl; small = omega arith }

check_known : (format : Format) (k : Check) → (k ≡ AnswerTooLong → format ≡ Expanded) → Known format (check_word k)
unfolding check_word common is_common begins_common
check_known format BrokenForm only = common_known format _ refl
check_known format UnknownInstruction only = common_known format _ refl
check_known format WrongClass only = common_known format _ refl
check_known format BytesAfter only = common_known format _ refl
check_known format WrongCase only = common_known format _ refl
check_known format WrongParameters only = common_known format _ refl
check_known format WrongDomain only = common_known format _ refl
check_known format WrongPathLength only = common_known format _ refl
check_known format NotFound only = common_known format _ refl
check_known format NothingWaits only = common_known format _ refl
check_known format MoreThanWaits only = common_known format _ refl
check_known format NoFile only = common_known format _ refl
check_known format WrongKind only = common_known format _ refl
check_known format WrongMode only = common_known format _ refl
check_known format Deactivated only = common_known format _ refl
check_known format Never only = common_known format _ refl
check_known format OffsetOutside only = common_known format _ refl
check_known format NoRecord only = common_known format _ refl
check_known format WrongLength only = common_known format _ refl
check_known format SumTooLong only = common_known format _ refl
check_known format JournalFull only = common_known format _ refl
check_known format AnswerTooLong only = rw (only refl) too_long

pub says_known : (format : Format) (o : Outcome) → Says format o → Known format (word_of o)
unfolding Says
says_known format (Well word) h = ⊎_elim (λ w. common_known format word (well_common word w)) (λ w. rw w.0 (waits_known word w.1)) h
says_known format (FromFiles word place n) h = common_known format word (well_common word h)
says_known format (FromWaiting word n) h = common_known format word (well_common word h)
says_known format (Error k) h = check_known format k h

pub says_data : (format : Format) (o : Outcome) → Says format o → 1 ≤ data_count o → has_data (word_of o) ≡ true
unfolding Says
says_data format (Well word) h some = absurd (omega arith)
says_data format (FromFiles word place n) h some = well_data word h
says_data format (FromWaiting word n) h some = well_data word h
says_data format (Error k) h some = absurd (omega arith)

-- The words that a command can end with: well, with 9000, 6282 or 6283, or in compact with the number of bytes that wait; or with the word
-- of a check, 6F00 in expanded alone. So a word stops the script just where it is an error. Assumes nothing.
use mathlib.Core.Path.{◌≡◌}
use mathlib.Core.Bool.{true, not}
use mathlib.Core.Logic.{◌⊎◌, inl, inr, ⊎_elim}
use Prim.Native.Nat.{ℕ, ◌≤◌}
use Rattle.session.specs.Words.{CanBeKept}
use Rattle.session.specs.Session.{most_waiting}
use Rattle.command.specs.declared.Format.{Format}
use Rattle.command.specs.declared.Format.TheVariants.{Compact, Expanded}
use Rattle.command.specs.declared.checks.Check.TheVariants.{AnswerTooLong}
use Rattle.command.specs.declared.Outcome.{Outcome}
use Rattle.command.specs.declared.Outcome.TheVariants.{Well, FromFiles, FromWaiting, Error}
use Rattle.command.specs.Outcomes.{normal, end_of_data, selected_deactivated, bytes_wait, word_of, is_error, goes_on}
use Rattle.command.proofs.Stops.{check_stops, wait_goes}

-- the words with which data can come
abbrev pub EndsWell : ℕ → Type 0
EndsWell word = (word ≡ normal) ⊎ ((word ≡ end_of_data) ⊎ (word ≡ selected_deactivated))

-- "report 61 and the length", which is never 0
pub record Waits (word : ℕ) : Type 0 where
  pub count : ℕ
  pub least : 1 ≤ count
  pub most : count ≤ most_waiting
  pub told : word ≡ bytes_wait count

unfoldable pub Says : Format → Outcome → Type 0
Says format (Well word) = EndsWell word ⊎ ((format ≡ Compact) × Waits word)
Says format (FromFiles word place n) = EndsWell word
Says format (FromWaiting word n) = EndsWell word
Says format (Error k) = k ≡ AnswerTooLong → format ≡ Expanded

pub kept_well : (word : ℕ) → CanBeKept word → EndsWell word
kept_well word = ⊎_elim inl (λ e. inr (inr e))

well_goes : (word : ℕ) → EndsWell word → goes_on word ≡ true
well_goes word = ⊎_elim (λ e. rw e) (⊎_elim (λ e. rw e) (λ e. rw e))

pub says_stops : (format : Format) (o : Outcome) → Says format o → goes_on (word_of o) ≡ not (is_error o)
unfolding Says
says_stops format (Well word) = ⊎_elim (well_goes word) (λ w. rw w.1.told (wait_goes w.1.count w.1.most))
says_stops format (FromFiles word place n) = well_goes word
says_stops format (FromWaiting word n) = well_goes word
says_stops format (Error k) = λ _. check_stops k

-- Each contract of a public function of this crate allows one result: whatever the arguments, two results that it allows are the same.
-- None of the functions is lent a memory to write. Assumes nothing.
use Prim.Native.Nat.{ℕ, ◌≤◌}
use native.Mathlib.Omega.{arith}
use contract.Lifetimes.{Lfts}
use Rattle.octets.proofs.Determined.{Determined, by_equation}
use Rattle.card.proofs.entries.Reads as entries
use Rattle.card.proofs.row_at.Reads as row_at
use Rattle.card.proofs.place_of_newest.Reads as place-of-newest
use Rattle.card.proofs.place_of_state.Reads as place-of-state
use Rattle.card.proofs.records.record_count.Reads as record-count
use Rattle.card.proofs.records.record_offset.Reads as record-offset
use Rattle.card.proofs.records.oldest_place.Reads as oldest-place
use Rattle.card.proofs.rules.is_directory.Reads as is-directory
use Rattle.card.proofs.rules.is_file.Reads as is-file
use Rattle.card.proofs.rules.newest_sound.Reads as newest_sound_lem
use Rattle.card.proofs.rules.state_sound.Reads as state-sound
use Rattle.card.proofs.sound.sound_table.Reads as sound-table
use Rattle.card.proofs.tree.child.Reads as child
use Rattle.card.proofs.tree.root_of.Reads as root-of

module _ (κs : Lfts 0) where
  pub place_of_newest_determined : Determined (place-of-newest.Learnt κs) (λ args a e. a)
  place_of_newest_determined = by_equation (λ args a e h. h)

  pub place_of_state_determined : Determined (place-of-state.Learnt κs) (λ args a e. a)
  place_of_state_determined = by_equation (λ args a e h. h)

  pub record_count_determined : Determined (record-count.Learnt κs) (λ args a e. a)
  record_count_determined = by_equation (λ args a e h. h.0)

  pub record_offset_determined : Determined (record-offset.Learnt κs) (λ args a e. a)
  record_offset_determined = by_equation (λ args a e h. h.0)

  pub oldest_place_determined : Determined (oldest-place.Learnt κs) (λ args a e. a)
  oldest_place_determined = by_equation (λ args a e h. h.0)

  pub is_directory_determined : Determined (is-directory.Learnt κs) (λ args a e. a)
  is_directory_determined = by_equation (λ args a e h. h)

  pub is_file_determined : Determined (is-file.Learnt κs) (λ args a e. a)
  is_file_determined = by_equation (λ args a e h. h)

  pub newest_sound_determined : Determined (newest_sound_lem.Learnt κs) (λ args a e. a)
  newest_sound_determined = by_equation (λ args a e h. h)

  pub state_sound_determined : Determined (state-sound.Learnt κs) (λ args a e. a)
  state_sound_determined = by_equation (λ args a e h. h)

module _ (κs : Lfts 1) where
  pub entries_determined : Determined (entries.Learnt κs) (λ args a e. a)
  entries_determined = by_equation (λ args a e h. h)

  pub row_at_determined : Determined (row_at.Learnt κs) (λ args a e. a)
  row_at_determined = by_equation (λ args a e h. h.0)

  pub child_determined : Determined (child.Learnt κs) (λ args a e. a)
  child_determined = by_equation (λ args a e h. h)

  -- the promise holds for any sufficient count of steps, so for the entry's own number
  itself : (n : ℕ) → n ≤ n
  itself n = omega arith

  pub root_of_determined : Determined (root-of.Learnt κs) (λ args a e. a)
  root_of_determined = by_equation (λ args a e h. h.1 args.1.0 (itself args.1.0))

module _ (κs : Lfts 2) where
  pub sound_table_determined : Determined (sound-table.Learnt κs) (λ args a e. a)
  sound_table_determined = by_equation (λ args a e h. h)

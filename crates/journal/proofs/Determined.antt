-- Each contract of a public function of this crate allows one result: whatever the arguments and the first contents of the lent memories,
-- two results that it allows are the same, the answer and every byte of each memory that is lent to be written. Assumes nothing.
use mathlib.Core.Path.{◌∙◌, ap}
use contract.Lifetimes.{Lfts}
use Rattle.octets.proofs.Determined.{Determined, by_equation, pair, both}
use Rattle.card.specs.Lent.{held}
use Rattle.journal.specs.Entries.{head_of}
use Rattle.journal.proofs.entry_bytes.Reads as entry_bytes_lem
use Rattle.journal.proofs.read.head_of.Reads as head_of
use Rattle.journal.proofs.read.room_of.Reads as room_of
use Rattle.journal.proofs.read.mark_fits.Reads as mark_fits_lem
use Rattle.journal.proofs.sound.sound_card.Reads as sound-card
use Rattle.journal.proofs.write.mark.Reads as mark
use Rattle.journal.proofs.write.write.Reads as write
use Rattle.journal.proofs.back.take_back.Reads as take_back
use Rattle.journal.proofs.back.confirm.Reads as confirm

module _ (κs : Lfts 0) where
  pub entry_bytes_determined : Determined (entry_bytes_lem.Learnt κs) (λ args a e. a)
  entry_bytes_determined = by_equation (λ args a e h. h)

module _ (κs : Lfts 1) where
  pub head_of_determined : Determined (head_of.Learnt κs) (λ args a e. a)
  head_of_determined = by_equation (λ args a e h. h.0)

  pub room_of_determined : Determined (room_of.Learnt κs) (λ args a e. a)
  room_of_determined = by_equation (λ args a e h. h)

  pub mark_fits_determined : Determined (mark_fits_lem.Learnt κs) (λ args a e. a)
  mark_fits_determined = by_equation (λ args a e h. h)

  pub mark_determined : Determined (mark.Learnt κs) (λ args a e. e.0.now)
  mark_determined = by_equation (λ args a e h. h)

  pub confirm_determined : Determined (confirm.Learnt κs) (λ args a e. e.0.now)
  confirm_determined = by_equation (λ args a e h. h)

module _ (κs : Lfts 2) where
  pub take_back_determined : Determined (take_back.Learnt κs) (λ args a e. held e.0.now)
  take_back_determined = by_equation (λ args a e h. h.0)

module _ (κs : Lfts 3) where
  pub sound_card_determined : Determined (sound-card.Learnt κs) (λ args a e. a)
  sound_card_determined = by_equation (λ args a e h. h)

  -- the head is that of the journal at exit, which is fixed
  pub write_determined : Determined (write.Learnt κs) (λ args a e. pair a (pair e.0.now e.1.0.now))
  write_determined = by_equation (λ args a e h. both (h.2 ∙ ap head_of h.1) (both h.0 h.1))

-- Each contract of a public function of this crate allows one result: whatever the arguments and the first content of the memory that
-- `put_fcp` writes, two results that it allows are the same, the answer and every byte of that memory. Assumes nothing.
use contract.Lifetimes.{Lfts}
use Rattle.octets.proofs.Determined.{Determined, by_equation, pair, both}
use Rattle.session.proofs.start.Reads as start
use Rattle.session.proofs.waits.Reads as waits
use Rattle.session.proofs.dropped.Reads as dropped
use Rattle.session.proofs.at_record.Reads as at-record
use Rattle.session.proofs.selected.Reads as selected
use Rattle.session.proofs.fcp.put_fcp.Reads as put-fcp
use Rattle.session.proofs.select.find.Reads as find

module _ (κs : Lfts 0) where
  pub start_determined : Determined (start.Learnt κs) (λ args a e. a)
  start_determined = by_equation (λ args a e h. h)

  pub waits_determined : Determined (waits.Learnt κs) (λ args a e. a)
  waits_determined = by_equation (λ args a e h. h)

  pub dropped_determined : Determined (dropped.Learnt κs) (λ args a e. a)
  dropped_determined = by_equation (λ args a e h. h)

  pub at_record_determined : Determined (at-record.Learnt κs) (λ args a e. a)
  at_record_determined = by_equation (λ args a e h. h)

  pub selected_determined : Determined (selected.Learnt κs) (λ args a e. a)
  selected_determined = by_equation (λ args a e h. h)

module _ (κs : Lfts 1) where
  pub put_fcp_determined : Determined (put-fcp.Learnt κs) (λ args a e. pair a e.0.now)
  put_fcp_determined = by_equation (λ args a e h. both h.1 h.0)

module _ (κs : Lfts 2) where
  pub find_determined : Determined (find.Learnt κs) (λ args a e. a)
  find_determined = by_equation (λ args a e h. h)

-- Each of the three contracts allows one result: whatever the arguments and the first contents of the lent memories, two results
-- that it allows have the same number, length and count, and leave the same bytes in each lent memory. So does the contract of
-- `start_of`, which lends nothing mutable and is called inside this crate alone: two starts that it allows are the same but for the name of
-- a refusal, of which the number is seen. Assumes nothing.
use mathlib.Core.List.{[]}
use lib.ListN.{length-replicate}
use contract.Lifetimes.{Lfts}
use Rattle.octets.specs.Bytes.{zeros}
use Rattle.octets.proofs.Determined.{Determined, by_equation}
use Rattle.card.specs.Lent.{held}
use Rattle.card.specs.Row.{lent}
use Rattle.engine.specs.Numbers.{answer_of, by_number}
use Rattle.engine.specs.Calls.{gives}
use Rattle.engine.proofs.Refused.number.Reads as number
use Rattle.engine.proofs.run.Reads as run
use Rattle.engine.proofs.take_back.Reads as take_back
use Rattle.engine.proofs.confirm.Reads as confirm
use Rattle.engine.proofs.numbers.start_of.Reads as start_of_lem

module _ (κs : Lfts 0) where
  pub number_determined : Determined (number.Learnt κs) (λ args a e. a)
  number_determined = by_equation (λ args a e h. h.0)

module _ (κs : Lfts 4) where
  -- response memory and card are the last two parameters
  pub run_determined : Determined (run.Learnt κs) (λ args a e. gives (answer_of a) (held e.1.1.1.0.now) e.1.1.0.now)
  run_determined = by_equation (λ args a e h. h.0.0)

module _ (κs : Lfts 2) where
  pub take_back_determined : Determined (take_back.Learnt κs) (λ args a e. gives (answer_of a) (held e.0.now) [])
  take_back_determined = by_equation (λ args a e h. h.0.0)

module _ (κs : Lfts 3) where
  -- table and files are lent to be read alone
  pub confirm_determined : Determined (confirm.Learnt κs) (λ args a e. gives (answer_of a) (lent args.0.now args.1.0.now e.1.1.0.now) [])
  confirm_determined = by_equation (λ args a e h. h.0)

  -- a response memory of the length that is passed is one of zeros
  pub start_determined : Determined (start_of_lem.Learnt κs) (λ args a e. by_number a)
  start_determined = by_equation (λ args a e h. let room = args.1.1.0 in h.0 (zeros room) (length-replicate room 0))

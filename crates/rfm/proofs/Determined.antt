-- Each of the three contracts allows one result: whatever the arguments and the first contents of the lent memories, two results
-- that it allows are the same number, and leave the same bytes in each lent memory. Assumes nothing.
use mathlib.Core.List.{[]}
use contract.Lifetimes.{Lfts}
use Rattle.octets.proofs.Determined.{Determined, by_equation}
use Rattle.card.specs.Row.{lent}
use Rattle.rfm.specs.Packed.{crosses}
use Rattle.rfm.proofs.rfm_run.Reads as run
use Rattle.rfm.proofs.rfm_take_back.Reads as take_back
use Rattle.rfm.proofs.rfm_confirm.Reads as confirm

module _ (κs : Lfts 5) where
  pub run_determined :
      Determined (run.Learnt κs)
      (λ args a e. crosses a (lent e.0.now e.1.0.now e.1.1.0.now) e.1.1.1.1.1.1.1.0.now)
  run_determined = by_equation (λ args a e h. h)

module _ (κs : Lfts 3) where
  pub take_back_determined :
      Determined (take_back.Learnt κs) (λ args a e. crosses a (lent e.0.now e.1.0.now e.1.1.0.now) [])
  take_back_determined = by_equation (λ args a e h. h)

  -- table and files are lent to be read alone
  pub confirm_determined :
      Determined (confirm.Learnt κs) (λ args a e. crosses a (lent args.0.now args.1.0.now e.1.1.0.now) [])
  confirm_determined = by_equation (λ args a e h. h)

-- Each of the three contracts allows one result: whatever the arguments and the first content of the script memory, two results that it
-- allows are the same number, and leave the same bytes in that memory. Assumes nothing.
use contract.Lifetimes.{Lfts}
use Rattle.octets.proofs.Determined.{Determined, by_equation}
use Rattle.rfm_desk.specs.Packed.{crosses}
use Rattle.rfm_desk.proofs.rfm_build.Reads as build
use Rattle.rfm_desk.proofs.rfm_read_answer.Reads as read_answer
use Rattle.rfm_desk.proofs.rfm_result.Reads as result

module _ (κs : Lfts 3) where
  pub rfm_build_determined : Determined (build.Learnt κs) (λ args a e. crosses a e.1.1.1.0.now)
  rfm_build_determined = by_equation (λ args a e h. h)

module _ (κs : Lfts 1) where
  pub rfm_read_answer_determined : Determined (read_answer.Learnt κs) (λ args a e. a)
  rfm_read_answer_determined = by_equation (λ args a e h. h.0)

  pub rfm_result_determined : Determined (result.Learnt κs) (λ args a e. a)
  rfm_result_determined = by_equation (λ args a e h. h.0)

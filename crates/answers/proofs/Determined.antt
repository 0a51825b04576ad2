-- Each contract of a public function of this crate allows one result: whatever the arguments, two results that it allows are the same.
-- Assumes nothing.
use contract.Lifetimes.{Lfts}
use Rattle.octets.proofs.Determined.{Determined, by_equation}
use Rattle.answers.proofs.read_answer.Reads as read_answer
use Rattle.answers.proofs.results.result_at.Reads as result-at

module _ (κs : Lfts 1) where
  pub read_answer_determined : Determined (read_answer.Learnt κs) (λ args a e. a)
  read_answer_determined = by_equation (λ args a e h. h.0)

  pub result_at_determined : Determined (result-at.Learnt κs) (λ args a e. a)
  result_at_determined = by_equation (λ args a e h. h.0)

-- Each contract of a public function of this crate allows one result: whatever the arguments and the first contents of the lent memories,
-- two results that it allows are the same, the answer and every byte of each memory that is lent to be written. Assumes nothing.
use contract.Lifetimes.{Lfts}
use Rattle.octets.proofs.Determined.{Determined, by_equation, pair, both}
use Rattle.card.specs.Lent.{held}
use Rattle.step.specs.Steps.{state_of}
use Rattle.compact.proofs.answer.put_answer.Reads as put-answer
use Rattle.compact.proofs.run.run.Reads as run

module _ (κs : Lfts 2) where
  pub put_answer_determined : Determined (put-answer.Learnt κs) (λ args a e. pair a e.0.now)
  put_answer_determined = by_equation (λ args a e h. both h.1 h.0)

module _ (κs : Lfts 3) where
  pub run_determined : Determined (run.Learnt κs) (λ args a e. state_of a (held e.1.1.1.0.now))
  run_determined = by_equation (λ args a e h. h.0)

-- `answers::read_answer` meets its contract: each return is the case that the definition picks, and what that promises follows
-- (`answer_told`). Assumes nothing.
use Rattle.octets.proofs.Picks.{choices}
use Rattle.answers.specs.Answers.{read_answer}
use Rattle.answers.proofs.Fits.{answer_told}
use Rattle.answers.proofs.read_answer.Goals as goal

pub returns-then-format-eq0 : goal.returns-then-format-eq0
unfolding read_answer
returns-then-format-eq0 c = answer_told _ (λ i. (c.type_inv.answer i).fits) _ (search choices)

pub returns-then-format-eq1 : goal.returns-then-format-eq1
unfolding read_answer
returns-then-format-eq1 c = answer_told _ (λ i. (c.type_inv.answer i).fits) _ (search choices)

pub returns : goal.returns
unfolding read_answer
returns c = answer_told _ (λ i. (c.type_inv.answer i).fits) _ (search choices)

-- `answers::results::result_at` meets its contract: each return is the case that the definition picks, and what that promises follows
-- (`result_told`). Assumes nothing.
use Rattle.octets.proofs.Picks.{choices}
use Rattle.answers.specs.Results.{result_at}
use Rattle.answers.proofs.Fits.{result_told}
use Rattle.answers.proofs.results.result_at.Goals as goal

pub returns-then-answer-end : goal.returns-then-answer-end
unfolding result_at
returns-then-answer-end c = result_told _ (λ i. (c.type_inv.answer i).fits) _ _ _ (search choices)

pub returns-then-format-eq0 : goal.returns-then-format-eq0
unfolding result_at
returns-then-format-eq0 c = result_told _ (λ i. (c.type_inv.answer i).fits) _ _ _ (search choices)

pub returns-then-format-eq1 : goal.returns-then-format-eq1
unfolding result_at
returns-then-format-eq1 c = result_told _ (λ i. (c.type_inv.answer i).fits) _ _ _ (search choices)

pub returns : goal.returns
unfolding result_at
returns c = result_told _ (λ i. (c.type_inv.answer i).fits) _ _ _ (search choices)

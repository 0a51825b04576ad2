-- `rfm_desk::rfm_read_answer` meets its contract: each return is the case that the definition picks. Assumes nothing.
use mathlib.Core.Path.{sym, ◌∙◌, subst}
use native.Mathlib.Omega.{arith}
use Rattle.answers.specs.Promised.{AnsweredFits}
use Rattle.rfm_desk.specs.Packed.{read_parts}
use Rattle.rfm_desk.proofs.Crossing.{parts_cross, too_long, is_read, read_fits}
use Rattle.rfm_desk.proofs.rfm_read_answer.Goals as goal

pub returns-then-answer-gt-MOST_ANSWER : goal.returns-then-answer-gt-MOST_ANSWER
returns-then-answer-gt-MOST_ANSWER c =
    parts_cross _ _ _ (record { number = omega arith; count = omega arith; length = omega arith }) _ c.packed.ensures (too_long _ _ c.if-answer-gt-MOST_ANSWER.true)

pub packed-requires-in-Ok : goal.packed-requires-in-Ok
unfolding read_parts
packed-requires-in-Ok c =
    read_fits _ _ c.if-answer-gt-MOST_ANSWER.false (subst (AnsweredFits _) c.in-Ok.is c.read_answer.ensures.1)

pub returns-in-Ok : goal.returns-in-Ok
unfolding read_parts
returns-in-Ok c =
    let short = c.if-answer-gt-MOST_ANSWER.false in
    parts_cross _ _ _ (read_fits _ _ short (subst (AnsweredFits _) c.in-Ok.is c.read_answer.ensures.1)) _ c.packed-in-Ok.ensures
    (is_read _ _ short (sym c.in-Ok.is ∙ c.read_answer.ensures.0))

pub returns-in-Err : goal.returns-in-Err
unfolding read_parts
returns-in-Err c =
    let short = c.if-answer-gt-MOST_ANSWER.false in
    parts_cross _ _ _ (read_fits _ _ short (subst (AnsweredFits _) c.in-Err.is c.read_answer.ensures.1)) _ c.packed-in-Err.ensures
    (is_read _ _ short (sym c.in-Err.is ∙ c.read_answer.ensures.0))

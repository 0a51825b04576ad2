-- `rfm_desk::rfm_result` meets its contract: each return is the case that the definition picks. Assumes nothing.
use mathlib.Core.Path.{sym, ap, ◌∙◌, subst}
use Rattle.std.specs.Prelude.{Some}
use Rattle.answers.specs.Promised.{ToldFits}
use Rattle.rfm_desk.specs.Packed.{told_parts}
use Rattle.rfm_desk.proofs.Crossing.{shown-crosses, none_told, is-told, nothing-few, told-few}
use Rattle.rfm_desk.proofs.rfm_result.Goals as goal

pub returns-then-answer-gt-MOST_ANSWER : goal.returns-then-answer-gt-MOST_ANSWER
returns-then-answer-gt-MOST_ANSWER c =
    shown-crosses _ _ _ _ nothing-few _ c.packed_result.ensures (none_told _ _ _ c.if-answer-gt-MOST_ANSWER.true)

pub returns-in-Some-Result : goal.returns-in-Some-Result
unfolding told_parts
returns-in-Some-Result c =
    let short = c.if-answer-gt-MOST_ANSWER.false in
    let is = c.in-Some-Result.is ∙ ap Some c.in-Some-Result.field-0-is in
    shown-crosses _ _ _ _ (told-few _ _ _ short (subst (ToldFits _ _) is c.result_at.ensures.1)) _ c.packed_result-in-Some-Result.ensures
    (is-told _ _ _ short (sym is ∙ c.result_at.ensures.0))

pub returns-in-Some-BadFormat : goal.returns-in-Some-BadFormat
unfolding told_parts
returns-in-Some-BadFormat c =
    let short = c.if-answer-gt-MOST_ANSWER.false in
    let is = c.in-Some-BadFormat.is ∙ ap Some c.in-Some-BadFormat.field-0-is in
    shown-crosses _ _ _ _ (told-few _ _ _ short (subst (ToldFits _ _) is c.result_at.ensures.1)) _ c.packed_result-in-Some-BadFormat.ensures
    (is-told _ _ _ short (sym is ∙ c.result_at.ensures.0))

pub returns-in-None : goal.returns-in-None
unfolding told_parts
returns-in-None c =
    shown-crosses _ _ _ _ nothing-few _ c.packed_result-in-None.ensures
    (is-told _ _ _ c.if-answer-gt-MOST_ANSWER.false (sym c.in-None.is ∙ c.result_at.ensures.0))

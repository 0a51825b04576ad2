-- `step::read::next_place` meets its contract: each arm is the one that the definition picks. Assumes nothing.
use mathlib.Core.Path.{sym, ap, refl, ◌∙◌}
use Rattle.octets.proofs.Picks.{yes, no}
use Rattle.command.specs.Outcomes.{goes_on}
use Rattle.step.proofs.read.next_place.Goals as goal

pub returns-then-goes_on : goal.returns-then-goes_on
returns-then-goes_on c = yes _ _ (sym (ap goes_on c.word_of.ensures) ∙ sym c.goes_on.ensures ∙ c.if-goes_on.true) refl

pub returns : goal.returns
returns c = no _ _ (sym (ap goes_on c.word_of.ensures) ∙ sym c.goes_on.ensures ∙ c.if-goes_on.false) refl

-- The loop's invariant: the script is `Going` at the place, from the card that it started on to the card as it is. The measure is what is left of the script.
use Rattle.std.proofs.Common.{◌-◌, length}
use Rattle.card.specs.Lent.{StaysLent, held}
use Rattle.step.proofs.Moved.{step_of}
use Rattle.compact.proofs.Going.{Going}
use Rattle.compact.proofs.run.run_lent.Given as goal

abbrev pub invariant-loop-at : goal.invariant-loop-at
invariant-loop-at l =
    record {
      going : Going l.script l.application l.domain (held l.initial.card) (held l.card) (step_of l.session l.ended) l.at;
      stays : StaysLent l.initial.card l.card;
    }

abbrev pub decreases-loop-at : goal.decreases-loop-at
decreases-loop-at l = length l.script - l.at

-- The loop's invariant: the script is `Going` at the place, from the card that it started on to the card as it is. The measure is what is
-- left of the value.
use Rattle.std.proofs.Common.{◌≡◌, ◌-◌, length}
use Rattle.card.specs.Lent.{StaysLent, held}
use Rattle.step.proofs.Moved.{step_of}
use Rattle.expanded.specs.Expanded.{gathered_of}
use Rattle.expanded.proofs.Going.{Going}
use Rattle.expanded.proofs.run.run_capdus.Given as goal

abbrev pub invariant-loop-from : goal.invariant-loop-from
invariant-loop-from l =
    record {
      going : Going l.script l.definite l.at l.end l.application l.domain (held l.initial.card) (held l.card) l.out (gathered_of (step_of l.session l.ended) l.rapdus) l.place;
      long : length l.out ≡ length l.initial.out;
      stays : StaysLent l.initial.card l.card;
    }

abbrev pub decreases-loop-from : goal.decreases-loop-from
decreases-loop-from l = l.end - l.place

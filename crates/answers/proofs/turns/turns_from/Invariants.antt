use Prim.Native.Nat.{◌+◌, ◌-◌}
use lib.ListN.{length}
use Rattle.octets.specs.Choice.{pick}
use Rattle.answers.specs.Answers.{first_turn, turns_from}
use Rattle.answers.proofs.Going.{Going}
use Rattle.answers.proofs.turns.turns_from.Given as goal

abbrev pub invariant-loop-next : goal.invariant-loop-next
invariant-loop-next l =
    Going l.answer l.definite l.end (turns_from (length l.answer + 1) l.answer l.definite l.end (first_turn l.first (pick l.definite l.count 1))) l.t

abbrev pub decreases-loop-next : goal.decreases-loop-next
decreases-loop-next l = length l.answer + 1 - l.t.at

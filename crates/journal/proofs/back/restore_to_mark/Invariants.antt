use Rattle.journal.proofs.GivenBack.{GoesBack}
use Rattle.journal.proofs.back.restore_to_mark.Given as goal

abbrev pub invariant-loop-tail : goal.invariant-loop-tail
invariant-loop-tail l = GoesBack l.initial.table l.initial.files l.journal l.used l.table l.files l.u

abbrev pub decreases-loop-tail : goal.decreases-loop-tail
decreases-loop-tail l = l.u

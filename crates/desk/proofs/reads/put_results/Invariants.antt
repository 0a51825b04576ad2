use lib.ListN.{length}
use Rattle.answers.specs.Told.{told_from}
use Rattle.desk.specs.Reads.{all_lines}
use Rattle.desk.proofs.Shown.{Showing, left}
use Rattle.desk.proofs.reads.put_results.Given as goal

abbrev pub invariant-loop-s : goal.invariant-loop-s
invariant-loop-s l =
    Showing l.format l.answer l.end (all_lines (told_from (length l.answer) l.format l.answer l.first l.end)) l.initial.out l.to l.out l.s

abbrev pub decreases-loop-s : goal.decreases-loop-s
decreases-loop-s l = left (length l.answer) l.s.next

use Rattle.operations.specs.Carried.{number_of}
use Rattle.operations.proofs.Going.{ToWrite}
use Rattle.operations.proofs.writing.put_all.Given as goal

abbrev pub invariant-loop-i : goal.invariant-loop-i
invariant-loop-i l = ToWrite (number_of l.format) l.list l.data l.initial.out l.at l.i-end l.out l.place l.i

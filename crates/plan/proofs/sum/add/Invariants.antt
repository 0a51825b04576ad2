use Rattle.plan.proofs.Digits.{Adding}
use Rattle.plan.proofs.sum.add.Given as goal

abbrev pub invariant-loop-i : goal.invariant-loop-i
invariant-loop-i l = Adding l.first l.added l.initial.out l.out l.carry l.i

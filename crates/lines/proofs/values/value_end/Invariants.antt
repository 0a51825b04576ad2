use Rattle.std.proofs.Common.{◌≡◌}
use Rattle.lines.specs.Values.{value_end}
use Rattle.lines.proofs.values.value_end.Given as goal

abbrev pub invariant-loop-i : goal.invariant-loop-i
invariant-loop-i l = value_end l.stop l.input l.i ≡ value_end l.stop l.input l.from

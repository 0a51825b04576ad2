use mathlib.Core.Path.{◌≡◌}
use mathlib.Core.Bool.{◌&&◌}
use Prim.Native.Nat.{◌+◌, ◌-◌, ◌≤◌}
use lib.ListN.{drop}
use Rattle.octets.specs.Bytes.{part, starts_with}
use Rattle.octets.proofs.same_part.Given as goal

abbrev pub invariant-loop-i : goal.invariant-loop-i
invariant-loop-i l = (l.i ≤ l.n) × (starts_with (drop l.at l.m) (part l.d l.from l.n) ≡ (l.same && starts_with (drop (l.at + l.i) l.m) (drop l.i (part l.d l.from l.n))))

abbrev pub decreases-loop-i : goal.decreases-loop-i
decreases-loop-i l = l.n - l.i

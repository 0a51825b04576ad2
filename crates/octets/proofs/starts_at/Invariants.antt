use mathlib.Core.Path.{◌≡◌}
use Prim.Native.Nat.{◌+◌, ◌-◌, ◌≤◌}
use lib.ListN.{length, drop}
use Rattle.octets.specs.Bytes.{starts_with}
use Rattle.octets.proofs.starts_at.Given as goal

abbrev pub invariant-loop-i : goal.invariant-loop-i
invariant-loop-i g l = (l.i ≤ length l.d) × (starts_with (drop l.at l.m) l.d ≡ starts_with (drop (l.at + l.i) l.m) (drop l.i l.d))

abbrev pub decreases-loop-i : goal.decreases-loop-i
decreases-loop-i g l = length l.d - l.i

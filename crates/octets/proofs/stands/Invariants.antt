use mathlib.Core.Path.{◌≡◌}
use Prim.Native.Nat.{◌+◌, ◌-◌, ◌≤◌}
use lib.ListN.{length, drop}
use Rattle.octets.specs.Bytes.{contains}
use Rattle.octets.proofs.stands.Given as goal

abbrev pub invariant-loop-i : goal.invariant-loop-i
invariant-loop-i g l = (l.i ≤ length l.m) × (contains l.m l.d ≡ contains (drop l.i l.m) l.d)

abbrev pub decreases-loop-i : goal.decreases-loop-i
decreases-loop-i g l = l.last + 1 - l.i

use mathlib.Core.List.{[]}
use Prim.Native.Nat.{◌+◌, ◌-◌}
use lib.ListN.{length}
use Rattle.desk.specs.Lists.{list_from}
use Rattle.desk.proofs.Going.{Going}
use Rattle.desk.proofs.lists.list_from.Given as goal

abbrev pub invariant-loop-at : goal.invariant-loop-at
invariant-loop-at l = Going l.text (list_from (length l.text + 1) l.text l.first 2 [] []) l.rows l.data l.at l.number l.size l.held

abbrev pub decreases-loop-at : goal.decreases-loop-at
decreases-loop-at l = length l.text + 1 - l.at

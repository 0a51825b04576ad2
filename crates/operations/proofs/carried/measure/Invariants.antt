use mathlib.Core.Path.{◌≡◌}
use mathlib.Core.List.{List}
use Prim.Native.Nat.{ℕ, ◌+◌, ◌*◌, ◌≤◌}
use Rattle.operations.specs.Rows.{operations_of}
use Rattle.operations.specs.Carried.{number_of, first_not_carried}
use Rattle.operations.specs.Sizes.{all_size, most_written}
use Rattle.operations.proofs.Left.{left}
use Rattle.operations.proofs.carried.measure.Given as goal

pub record Measuring (format size : ℕ) (list : List ℕ) (n written i : ℕ) : Type 0 where
  pub first : first_not_carried format size (i + 1) (left list n i) ≡ first_not_carried format size 1 (operations_of list)
  pub sized : written + all_size format (left list n i) ≡ all_size format (operations_of list)
  pub small : written ≤ i * most_written

abbrev pub invariant-loop-i : goal.invariant-loop-i
invariant-loop-i l = Measuring (number_of l.format) l.size l.list l.n l.written l.i

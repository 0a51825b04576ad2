use mathlib.Core.Path.{◌≡◌}
use Prim.Native.Nat.{◌%◌}
use lib.ListN.{length}
use Rattle.std.specs.Slice.Iter.{chunks_exact_rest, chunks_exact_size}
use Rattle.session.specs.Select.{by_path}
use Rattle.session.proofs.select.by_path.Given as goal

abbrev pub invariant-loop-identifier : goal.invariant-loop-identifier
invariant-loop-identifier l =
    (chunks_exact_size l.identifier-iterator ≡ 2) × (length (chunks_exact_rest l.identifier-iterator) % 2 ≡ 0)
    × (by_path l.table l.e (chunks_exact_rest l.identifier-iterator) ≡ by_path l.table l.from l.path)

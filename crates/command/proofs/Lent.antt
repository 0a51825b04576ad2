-- A command's data that are lent from the bytes where they were read are no more than were read. Assumes nothing.
use mathlib.Core.List.{List}
use Prim.Native.Nat.{ℕ, ◌+◌, ◌-◌}
use native.Mathlib.Omega.{arith}
use lib.ListN.{length, length-take}
use Rattle.octets.specs.Bytes.{part}
use Rattle.octets.proofs.Writes.{part-lent}
use Rattle.command.specs.declared.Command.{Command}
use Rattle.command.specs.Promised.{OfBytes}

pub lent-bytes : {c : Command} {n : ℕ} (m : List ℕ) (from : ℕ) → OfBytes c n → OfBytes c (length (part m from (from + n - from)))
lent-bytes {c} {n} m from b =
    let h = b.brief in
    record { p1 = b.p1; p2 = b.p2; p3 = b.p3; brief = rw (part-lent m from n, length-take) (omega arith) }

-- `octets::same_part` meets its contract. The loop's invariant: what was found so far and the bytes from i on tell what all do. Assumes nothing.
use native.Mathlib.Nat.{add-zero}
use Prim.Native.Nat.{◌+◌}
use native.Mathlib.Omega.{arith}
use Rattle.octets.specs.Bytes.{part}
use Rattle.octets.proofs.Same.{part_more, starts_ends}
use Rattle.octets.proofs.Writes.{part_length}
use Rattle.octets.proofs.same_part.Goals as goal

pub loop-i-init : goal.loop-i-init
loop-i-init c = (omega arith, rw add-zero)

pub loop-i-preserved : goal.loop-i-preserved
loop-i-preserved c =
    let a = c.args in
    let l = c.loop-i in
    (omega arith, part_more l.same a.m.now a.d.now a.at a.from a.n l.i l.invariant.1 (omega arith) (omega arith) (omega arith))

pub returns : goal.returns
returns c =
    let a = c.args in
    let l = c.loop-i in
    starts_ends l.same a.m.now (part a.d.now a.from a.n) (a.at + l.i) l.i l.invariant.1 (omega (arith, part_length a.d.now a.from a.n c.requires.1))

-- `lines::put::put_number` meets its contract: the name, the digits and the last byte are written one behind the other. Assumes nothing.
use mathlib.Core.Path.{refl}
use Prim.Native.Nat.{◌+◌}
use lib.ListN.{length, length-set}
use Rattle.lines.specs.Digits.{decimal}
use Rattle.lines.proofs.Decimal.{place-most}
use Rattle.lines.proofs.Written.{put, named_put}
use native.Mathlib.Omega.{arith}
use Rattle.lines.proofs.put.put_number.Goals as goal

pub bounds-out-end : goal.bounds-out-end
bounds-out-end c =
    let a = c.args in
    omega (arith, place-most _ (a.at + length a.name.now) a.n 19 (omega arith) c.put_decimal-end.ensures)

pub overflow_add-result : goal.overflow_add-result
overflow_add-result c =
    let a = c.args in
    omega (arith, place-most _ (a.at + length a.name.now) a.n 19 (omega arith) c.put_decimal-end.ensures)

pub shape_of-out : goal.shape_of-out
shape_of-out c = simp length-set (omega arith)

pub returns : goal.returns
unfolding decimal
returns c =
    let a = c.args in
    let p = c.put_decimal-end.ensures in
    let d = p (a.n + 1) (omega arith) in
    let l = place-most _ (a.at + length a.name.now) a.n 19 (omega arith) p in
    let w = named_put a.last (put c.copy.ensures refl) (put d.0 d.1) in
    (w.memory (omega arith), w.place, omega arith)

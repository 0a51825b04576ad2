-- `lines::put::put_bytes` meets its contract: the name, the signs and the last byte are written one behind the other. Assumes nothing.
use mathlib.Core.Path.{refl}
use Prim.Native.Nat.{◌+◌, ◌*◌}
use lib.ListN.{length, length-set}
use Rattle.lines.proofs.Hex.{hex_length}
use Rattle.lines.proofs.Written.{put, named_put}
use native.Mathlib.Omega.{arith}
use Rattle.lines.proofs.put.put_bytes.Goals as goal

pub put_hex-requires : goal.put_hex-requires
put_hex-requires c = omega arith

pub shape_of-out : goal.shape_of-out
shape_of-out c = simp length-set (omega arith)

pub returns : goal.returns
returns c =
    let a = c.args in
    let l = hex_length a.bytes.now in
    let w = named_put {r = a.at + length a.name.now + 2 * length a.bytes.now} a.last (put c.copy.ensures refl) (put c.put_hex.ensures (omega arith)) in
    (w.memory (omega arith), w.place, refl)

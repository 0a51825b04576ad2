-- `tlv::template::capdu` meets its contract. Assumes nothing.
use mathlib.Core.Path.{◌≡◌, ap}
use Prim.Native.Nat.{ℕ, ◌+◌, ◌-◌}
use native.Mathlib.Omega.{arith}
use lib.ListN.{take, drop}
use Rattle.tlv.proofs.template.capdu.Goals as goal

pub returns : goal.returns
returns c =
    let a = c.args in
    let e : a.from + a.size - a.from ≡ a.size = omega arith in
    ap (λ (n : ℕ). take n (drop a.from a.script.now)) e

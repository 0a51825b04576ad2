use Prim.Native.Nat.{◌-◌}
use Rattle.octets.specs.Bytes.{part}
use Rattle.plan.proofs.Found.{Going}
use Rattle.plan.proofs.search.search.Given as goal

abbrev pub invariant-loop : goal.invariant-loop
invariant-loop l = Going l.r (part l.files l.r.start l.r.size) l.p2 l.data l.from l.initial.out l.out (l.left - l.counter) l.number l.n

-- The three demands, proved. Assumes nothing.
use Rattle.demands.specs.Demand1.{Demand1}
use Rattle.demands.specs.Demand2.{Demand2}
use Rattle.demands.specs.Demand3.{Demand3}
use Rattle.demands.proofs.Demand1 as one
use Rattle.demands.proofs.Demand2 as two
use Rattle.demands.proofs.Demand3 as three

pub demand1 : Demand1
demand1 = one.demand1

pub demand2 : Demand2
demand2 = two.demand2

pub demand3 : Demand3
demand3 = three.demand3

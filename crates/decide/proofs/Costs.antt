-- What fits is brief: a sum that fits is a record of at most `most_waiting` bytes. Assumes nothing.
use Prim.Native.Nat.{ℕ}
use Rattle.plan.specs.Promised.{Fits, CostOfAsks}
use Rattle.plan.specs.declared.Change.{Change}
use Rattle.plan.specs.declared.Change.TheVariants.{Nothing, Content, DataRecord, SumRecord, TableByte}

pub fits-brief : (t f lc : ℕ) (change : Change) → Fits t f lc change → CostOfAsks change
unfolding Fits CostOfAsks
fits-brief t f lc Nothing h = tt
fits-brief t f lc (Content start size offset) h = tt
fits-brief t f lc (DataRecord r) h = tt
fits-brief t f lc (SumRecord r) h = h.1
fits-brief t f lc (TableByte place new) h = tt

-- The contract of `packed` allows one result. Assumes nothing.
use contract.Lifetimes.{Lfts}
use Rattle.octets.proofs.Determined.{Determined, by_equation}
use Rattle.boundary.proofs.packed.Reads as packed

module _ (κs : Lfts 0) where
  pub packed_determined : Determined (packed.Learnt κs) (λ args a e. a)
  packed_determined = by_equation (λ args a e h. h)

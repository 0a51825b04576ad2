-- The contract of each public function of this crate allows one result: whatever the arguments and the first contents of the memories
-- that are lent to be written, two results that it allows are the same, the answer and every byte of those memories. Assumes nothing.
use contract.Lifetimes.{Lfts}
use Rattle.octets.proofs.Determined.{Determined, by_equation, pair, both}
use Rattle.desk.proofs.builds.print.Reads as builds-print
use Rattle.desk.proofs.reads.print.Reads as reads-print

module _ (κs : Lfts 2) where
  pub builds_print_determined : Determined (builds-print.Learnt κs) (λ args a e. pair a (pair e.0.now e.1.0.now))
  builds_print_determined = by_equation (λ args a e h. both h.2 (both h.0 h.1))

  pub reads-print_determined : Determined (reads-print.Learnt κs) (λ args a e. pair a e.1.0.now)
  reads-print_determined = by_equation (λ args a e h. both h.1 h.0)

-- The contract of `decide` allows one result in what is seen of it: whatever the arguments and the first content of the bytes that are lent
-- for what a command makes, two results that it allows agree in the plan, with the bytes that were made, and in their number, which is no
-- more than were lent. docs/PROMISES.md has the rest as an exception. Assumes nothing.
use Prim.Native.Nat.{◌≤◌}
use lib.ListN.{length}
use contract.Lifetimes.{Lfts}
use Rattle.octets.proofs.Determined.{Determined, by_equation, pair}
use Rattle.plan.specs.Promised.{plan_of}
use Rattle.plan.proofs.Determined.{by_bytes}
use Rattle.decide.proofs.decide.Reads as decide

module _ (κs : Lfts 5) where
  pub decide_determined :
      Determined (λ args a e. decide.Learnt κs args a e × (a.made ≤ length e.1.1.1.1.1.0.now))
      (λ args a e. pair (plan_of a args.0.«data».now e.1.1.1.1.1.0.now) a.made)
  decide_determined =
      by_equation (λ args a e h. by_bytes a args.0.«data».now e.1.1.1.1.1.0.now h.0.same h.1)

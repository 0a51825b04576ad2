-- `decide::with_room` meets its contract: where the journal has no room, the plan is the one that failed. Assumes nothing.
use Prim.Native.Nat.{◌+◌}
use native.Mathlib.Omega.{arith}
use Rattle.octets.proofs.Picks.{lt_yes}
use Rattle.journal.specs.Changes.{cost}
use Rattle.plan.specs.Promised.{plan_of, writes_of}
use Rattle.plan.proofs.Inside.{none-fits}
use Rattle.decide.specs.Promised.{roomed}
use Rattle.decide.proofs.with_room.Goals as goal

pub returns-then-room-used : goal.returns-then-room-used
unfolding plan_of roomed
returns-then-room-used c =
    (λ «data» bytes l b. lt_yes c.args.room (c.args.used + cost (writes_of c.args.d.change «data» bytes)) (plan_of c.args.d «data» bytes) (omega (arith, c.cost_of.ensures.0 «data» bytes l b)) (c.failed.ensures.0 «data» bytes), λ t f h. none-fits _ _ _ c.failed.ensures.1)

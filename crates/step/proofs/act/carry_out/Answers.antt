-- `step::act::carry_out` meets its contract: the writes, and what was made goes to the waiting bytes. Assumes nothing.
use mathlib.Core.Path.{refl}
use Rattle.session.specs.Session.{session_of}
use Rattle.step.specs.Steps.{carried_out, moved_to}
use Rattle.plan.specs.Promised.{plan_of}
use Rattle.step.proofs.act.carry_out.Goals as goal

pub returns-clause-done : goal.returns-clause-done
unfolding plan_of carried_out
returns-clause-done c =
    let d = c.args.d in
    (λ i. moved_to (session_of d.session (c.copy.ensures i)) d.outcome (c.perform.ensures.performed i), refl)

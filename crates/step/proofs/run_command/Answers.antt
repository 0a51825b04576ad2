-- `step::run_command` meets its contract: what was decided is the plan under the 1,000-byte rule, and what was carried out is that plan. Assumes nothing.
use mathlib.Core.Path.{◌≡◌, sym, ap, subst, ◌∙◌}
use native.Mathlib.Omega.{arith}
use lib.ListN.{length}
use Rattle.card.specs.Lent.{held}
use Rattle.journal.specs.Promised.{HasRoom}
use Rattle.journal.specs.Sound.{journal_length}
use Rattle.journal.specs.Changes.{cost}
use Rattle.journal.proofs.Parts.{card_parts}
use Rattle.plan.specs.Ends.{Plan}
use Rattle.plan.specs.Promised.{plan_of}
use Rattle.step.specs.Steps.{carried_out}
use Rattle.step.proofs.Limited.{decided-few}
use Rattle.step.proofs.run_command.Goals as goal

pub decide-d-requires : goal.decide-d-requires
decide-d-requires c =
    c.requires.0.ready

pub limited-requires : goal.limited-requires
limited-requires c =
    let d = c.decide-d in
    (c.requires.0.kept, decided-few c.args.asked.format c.args.asked.domain c.args.asked.command c.args.asked.«data».now c.args.s (held c.args.card.now) c.requires.0.ready _ d.result d.ensures)

pub carry_out-requires : goal.carry_out-requires
unfolding plan_of
carry_out-requires c =
    let d = c.limited.ensures _ _ _ _ c.decide-d.ensures in
    let whole : length c.args.card.now.journal.now ≡ journal_length = (card_parts (held c.args.card.now) c.requires.0.ready.sound).size in (
      record {
        fits = d.fits;
        short = omega arith;
        left = subst (λ (p : Plan). HasRoom c.args.card.now.journal.now (cost p.writes)) (sym d.same) d.journal;
      },
      c.requires.1,
    )

pub returns-clause-ran : goal.returns-clause-ran
returns-clause-ran c =
    let d = c.limited.ensures _ _ _ _ c.decide-d.ensures in
    let done = c.carry_out.ensures.done in
    (done.0 ∙ ap (λ (p : Plan). carried_out p c.args.waiting.now (held c.args.card.now)) d.same, done.1)

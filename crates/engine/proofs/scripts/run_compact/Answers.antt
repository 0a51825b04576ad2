-- `engine::scripts::run_compact` meets its contract: with its mark the card is one that a script starts from. Assumes nothing.
use mathlib.Core.Path.{ap, ◌∙◌}
use native.Mathlib.Omega.{arith}
use Rattle.card.specs.Lent.{held}
use Rattle.command.specs.declared.Format.TheVariants.{Compact}
use Rattle.engine.specs.Calls.{arguments_of, run_script}
use Rattle.engine.proofs.Ended.{with_mark_lem, begins, compact-room, compact-waiting, compact-small, compact-gives}
use Rattle.engine.proofs.scripts.run_compact.Goals as goal

pub run-step-requires : goal.run-step-requires
run-step-requires c = (begins (held c.args.card.now) c.mark.ensures c.requires.starts, c.requires.script_short)

pub put_answer-length-requires : goal.put_answer-length-requires
put_answer-length-requires c =
    let starts = begins (held c.args.card.now) c.mark.ensures c.requires.starts in
    compact-room c.args.script.now (λ i. omega (arith, c.type_inv.script i)) c.wide-domain.result starts c.requires.script_short {step = c.run-step.result} {after = held c.run-step.new.card} c.run-step.ensures.ran c.requires.response_long

pub returns-clause-ran : goal.returns-clause-ran
returns-clause-ran c =
    let r = c.run-step in
    let p = c.put_answer-length.ensures in
    let k = held c.args.card.now in
    let starts = begins k c.mark.ensures c.requires.starts in
    let fits = compact-room c.args.script.now (λ i. omega (arith, c.type_inv.script i)) c.wide-domain.result starts c.requires.script_short {step = r.result} {after = held r.new.card} r.ensures.ran c.requires.response_long in (
      compact-gives (arguments_of c.args.call c.args.script.now c.args.response.now) _ r.result (held r.new.card) _ _ (rw c.wide-domain.ensures.0 at r.ensures.ran) p.0 p.1 ∙ ap (run_script Compact _) (with_mark_lem k c.mark.ensures),
      compact-small r.result _ fits.0 fits.1 (compact-waiting c.args.script.now (λ i. omega (arith, c.type_inv.script i)) c.wide-domain.result starts {step = r.result} {after = held r.new.card} r.ensures.ran) _ p.1,
    )

-- `engine::numbers::script_start` meets its contract: each arm is a case of `script_start`. Assumes nothing.
use mathlib.Core.Path.{sym, ap, subst}
use lib.ListN.{length}
use Rattle.tlv.specs.Promised.{TemplateFits}
use Rattle.command.specs.declared.Format.{Format}
use Rattle.engine.specs.Numbers.{template_start, script_start}
use Rattle.engine.specs.Promised.{StartFits}
use Rattle.engine.proofs.Starts.{expanded-start}
use Rattle.engine.proofs.numbers.script_start.Goals as goal

pub returns-in-Compact : goal.returns-in-Compact
unfolding script_start StartFits
returns-in-Compact c =
    (ap (λ (f : Format). script_start f c.args.script.now) (sym c.in-Compact.is), tt)

pub returns-in-Some : goal.returns-in-Some
unfolding template_start StartFits
returns-in-Some c =
    let found = c.template_of.ensures in
    (expanded-start c.args.script.now c.in-Expanded.is found.0 c.in-Some.is, subst (TemplateFits (length c.args.script.now)) c.in-Some.is found.1)

pub returns-in_default : goal.returns-in_default
unfolding template_start StartFits
returns-in_default c =
    (expanded-start c.args.script.now c.in-Expanded.is c.template_of.ensures.0 c.in_default.is, tt)

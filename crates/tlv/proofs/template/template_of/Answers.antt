-- `tlv::template::template_of` meets its contract: each arm is the one that the definition picks, and an empty script has no first byte. Assumes nothing.
use lib.ListN.{get_or-eq_default}
use native.Mathlib.Omega.{arith}
use Rattle.octets.specs.Choice.{pick}
use Rattle.octets.proofs.Picks.{picks}
use Rattle.tlv.specs.Templates.{template_of}
use Rattle.tlv.proofs.Fits.{template-told}
use Rattle.tlv.proofs.template.template_of.Goals as goal

pub returns-then-script-lt1 : goal.returns-then-script-lt1
unfolding template_of pick
returns-then-script-lt1 c = template-told c.args.script.now (λ i. omega (arith, c.type_inv.script i)) (rw (get_or-eq_default c.args.script.now 0 {n = 0} (omega arith)))

pub returns-then-script : goal.returns-then-script
unfolding template_of
returns-then-script c = template-told c.args.script.now (λ i. omega (arith, c.type_inv.script i)) (search picks)

pub returns-then-script-2 : goal.returns-then-script-2
unfolding template_of
returns-then-script-2 c = template-told c.args.script.now (λ i. omega (arith, c.type_inv.script i)) (search picks)

pub returns : goal.returns
unfolding template_of
returns c = template-told c.args.script.now (λ i. omega (arith, c.type_inv.script i)) (search picks)

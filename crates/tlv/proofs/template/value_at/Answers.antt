-- `tlv::template::value_at` meets its contract: each arm is the one that the definition picks. Assumes nothing.
use mathlib.Core.Path.{sym, ◌∙◌}
use native.Mathlib.Omega.{arith}
use Rattle.octets.proofs.Picks.{pick_true, pick-false}
use Rattle.tlv.specs.Lengths.{code_of}
use Rattle.tlv.specs.Promised.{LengthFits}
use Rattle.tlv.specs.Templates.{value_at}
use Rattle.tlv.proofs.template.value_at.Goals as goal

pub returns-in_default : goal.returns-in_default
unfolding value_at code_of
returns-in_default c = rw (c.code_of.ensures, sym c.length_at-answer.ensures.0 ∙ c.in_default.is, c.in_default.is)

pub overflow_add-from : goal.overflow_add-from
unfolding LengthFits
overflow_add-from c =
    let h = rw c.in-Found.is at c.length_at-answer.ensures.1 in
    omega arith

pub returns-then-from-n : goal.returns-then-from-n
unfolding value_at
returns-then-from-n c = rw (sym c.length_at-answer.ensures.0 ∙ c.in-Found.is) (sym (pick_true _ _ _ c.if-from-n.true))

pub returns : goal.returns
unfolding value_at
returns c = rw (sym c.length_at-answer.ensures.0 ∙ c.in-Found.is) (sym (pick-false _ _ _ c.if-from-n.false))

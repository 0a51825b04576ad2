-- `tlv::template::definite` meets its contract: what was found is the length at place 1. Assumes nothing.
use mathlib.Core.Path.{refl, sym, ◌∙◌}
use native.Mathlib.Omega.{arith}
use Rattle.octets.proofs.Picks.{eq_yes, eq_no}
use Rattle.tlv.specs.Promised.{LengthFits}
use Rattle.tlv.specs.Templates.{definite}
use Rattle.tlv.proofs.template.definite.Goals as goal

pub returns-in_default : goal.returns-in_default
unfolding definite
returns-in_default c = rw (sym c.length_at.ensures.0 ∙ c.in_default.is)

pub overflow_add-at : goal.overflow_add-at
unfolding LengthFits
overflow_add-at c =
    let h = rw c.in-Found.is at c.length_at.ensures.1 in
    omega arith

pub returns-then-at-n : goal.returns-then-at-n
unfolding definite
returns-then-at-n c = rw (sym c.length_at.ensures.0 ∙ c.in-Found.is) (eq_yes _ _ _ c.if-at-n.true refl)

pub returns : goal.returns
unfolding definite
returns c = rw (sym c.length_at.ensures.0 ∙ c.in-Found.is) (eq_no _ _ _ c.if-at-n.false refl)

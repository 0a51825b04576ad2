-- `answers::results::sized_at` meets its contract: where no length stands, the reading stops in the answer (`sized_told`). Assumes nothing.
use mathlib.Core.Path.{sym, ◌∙◌}
use Rattle.tlv.specs.Lengths.{code_of}
use Rattle.answers.specs.Results.{sized_by, sized_at}
use Rattle.answers.proofs.Places.{sized_told}
use Rattle.answers.proofs.results.sized_at.Goals as goal

pub returns-in_default : goal.returns-in_default
unfolding sized_at sized_by code_of
returns-in_default c =
    let a = c.args in
    sized_told a.answer.now a.at c.requires (λ i. (c.type_inv.answer i).fits) a.definite a.end
    (rw (c.length_stop.ensures, c.code_of.ensures, sym c.length_at-l.ensures.0 ∙ c.in_default.is, c.in_default.is))

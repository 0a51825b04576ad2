-- `rfm_desk::rfm_build` meets its contract: what crosses are the numbers of the build's answer. Assumes nothing.
use mathlib.Core.Path.{ap, ◌∙◌}
use Rattle.operations.specs.declared.Numbers.{Numbers}
use Rattle.operations.specs.Builds.{numbered}
use Rattle.rfm_desk.proofs.Crossing.{built-room, built-crosses}
use Rattle.rfm_desk.proofs.rfm_build.Goals as goal

pub packed-requires : goal.packed-requires
packed-requires c = built-room _ (rw c.in_numbers-b.ensures c.build.ensures.1)

pub returns : goal.returns
returns c =
    built-crosses _ (rw c.in_numbers-b.ensures c.build.ensures.1) _ _ _
    (ap (λ (n : Numbers). numbered n c.build.new.script) c.in_numbers-b.ensures ∙ c.build.ensures.0) c.packed.ensures

-- `expanded::answer::put_bad` meets its contract. Assumes nothing.
use mathlib.Core.Path.{refl}
use Rattle.expanded.specs.Expanded.{bad_format}
use Rattle.expanded.proofs.answer.put_bad.Goals as goal

pub returns : goal.returns
unfolding bad_format
returns c = (c.copy.ensures, refl)

-- `octets::copy` meets its contract. The loop's invariant: the first i bytes of the run are written at the place, and nothing else. Assumes nothing.
use mathlib.Core.Path.{refl, sym, ap, ◌∙◌}
use native.Mathlib.Omega.{arith}
use lib.ListN.{length-set}
use lib.Seq.{take_all}
use Rattle.octets.specs.Bytes.{overwrite}
use Rattle.octets.proofs.Writes.{write-none, write-next}
use Rattle.octets.proofs.copy.Goals as goal

pub loop-i-init : goal.loop-i-init
loop-i-init c = (refl, sym (write-none c.args.m.now c.args.at))

pub loop-i-preserved : goal.loop-i-preserved
loop-i-preserved c = (simp length-set (omega arith), write-next _ _ _ _ _ c.requires (omega arith) c.loop-i.invariant.1)

pub returns : goal.returns
returns c = c.loop-i.invariant.1 ∙ ap (overwrite _ _) (take_all c.loop-i.i c.args.d.now (omega arith))

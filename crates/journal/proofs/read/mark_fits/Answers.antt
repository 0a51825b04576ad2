-- `journal::read::mark_fits` meets its contract. Assumes nothing.
use mathlib.Core.Path.{◌∙◌}
use mathlib.Core.Bool.{◌&&◌}
use Prim.Native.Nat.{◌+◌}
use lib.Dec.{leb, ltb}
use Rattle.journal.specs.Sound.{most_scripts, mark_fits}
use Rattle.journal.proofs.Pushed.{own_used, own_scripts}
use Rattle.journal.proofs.read.mark_fits.Goals as goal

pub returns : goal.returns
unfolding mark_fits
returns c =
    let own = c.head_of-head.ensures.0 in
    let scripts = c.wide-scripts.ensures.0 ∙ own_scripts _ own in
    λ i. ltb (scripts i) most_scripts && leb (own_used _ own i + c.entry_bytes.ensures i) (c.room_of.ensures i)

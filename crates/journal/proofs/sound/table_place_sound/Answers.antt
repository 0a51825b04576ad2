-- `journal::sound::table_place_sound` meets its contract. Assumes nothing.
use mathlib.Core.Path.{ap, ◌∙◌}
use Prim.Native.Nat.{◌/◌, ◌%◌}
use native.Mathlib.Omega.{arith}
use borrow.Author.Tests.{le-ltb, lt-ltb}
use Rattle.card.specs.declared.Row.{Row}
use Rattle.card.specs.Row.{entries}
use Rattle.journal.specs.Sound.{table_byte_sound, table_place_sound}
use Rattle.journal.proofs.sound.table_place_sound.Goals as goal

pub returns-then-entries-e : goal.returns-then-entries-e
unfolding table_place_sound
returns-then-entries-e c = rw (le-ltb (c.args.place / 16) (entries c.args.table.now) (omega arith))

pub returns : goal.returns
unfolding table_place_sound
returns c =
    rw (lt-ltb (c.args.place / 16) (entries c.args.table.now) (omega arith))
    (c.table_byte_sound.ensures ∙ ap (λ (r : Row). table_byte_sound r (c.args.place % 16) c.args.old) c.row_at-r.ensures.0)

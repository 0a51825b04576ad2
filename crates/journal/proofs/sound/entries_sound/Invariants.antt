use mathlib.Core.Path.{◌≡◌}
use Prim.Native.Nat.{◌+◌, ◌≤◌}
use Rattle.journal.specs.Entries.{entries_back}
use Rattle.journal.specs.Sound.{entries_sound}
use Rattle.journal.proofs.Tested.{sound_from}
use Rattle.journal.proofs.sound.entries_sound.Given as goal

abbrev pub invariant-loop-u : goal.invariant-loop-u
invariant-loop-u l =
    (l.u + l.marks ≤ l.used) × (entries_sound l.table l.files l.scripts (entries_back l.used l.journal l.used) ≡ sound_from l.table l.files l.scripts (entries_back l.u l.journal l.u) l.marks l.oldest)

abbrev pub decreases-loop-u : goal.decreases-loop-u
decreases-loop-u l = l.u

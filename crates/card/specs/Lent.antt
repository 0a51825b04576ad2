-- "The lent card", as it is passed on: what its memories hold, and that they stay the same memories.
use Rattle.std.specs.Prelude.{◌≡◌}
use Rattle.card.specs.Row.{Card, lent}
use Rattle.card.specs.declared.lent.LentCard.{LentCard}

-- what a lent card holds
abbrev pub held : LentCard → Card
held c = lent c.table.now c.files.now c.journal.now

-- a call has not put another memory in the place of one that was lent
pub record StaysLent (old new : LentCard) : Type 0 where
  pub table : new.table.ghost_name ≡ old.table.ghost_name
  pub files : new.files.ghost_name ≡ old.files.ghost_name
  pub journal : new.journal.ghost_name ≡ old.journal.ghost_name

-- A lent card stays the same memories: at the start, and over two calls. Assumes nothing.
use mathlib.Core.Path.{refl, ◌∙◌}
use Rattle.card.specs.declared.lent.LentCard.{LentCard}
use Rattle.card.specs.Lent.{StaysLent}

pub stays : (c : LentCard) → StaysLent c c
stays c = record { table = refl; files = refl; journal = refl }

pub stays_on : {a b c : LentCard} → StaysLent a b → StaysLent b c → StaysLent a c
stays_on p q = record { table = q.table ∙ p.table; files = q.files ∙ p.files; journal = q.journal ∙ p.journal }

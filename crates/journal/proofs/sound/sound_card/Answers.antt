-- `journal::sound::sound_card` meets its contract. Assumes nothing.
use Rattle.journal.specs.Sound.{sound_card}
use Rattle.octets.proofs.Picks.{told}
use Rattle.journal.proofs.sound.sound_card.Goals as goal

pub returns-then-not-sound_table : goal.returns-then-not-sound_table
unfolding sound_card
returns-then-not-sound_table c = rw (told c.sound_table.ensures c.if-not-sound_table.true)

pub returns : goal.returns
unfolding sound_card
returns c = rw (told c.sound_table.ensures c.if-not-sound_table.false) c.sound_journal.ensures

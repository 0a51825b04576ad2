-- `journal::sound::table_byte_sound` meets its contract. Assumes nothing.
use mathlib.Core.Bool.{◌&&◌}
use lib.Dec.{eqb}
use Rattle.octets.proofs.Picks.{eq_yes, eq_no}
use Rattle.journal.specs.Sound.{table_byte_sound}
use Rattle.journal.proofs.sound.table_byte_sound.Goals as goal

pub returns-then-at-eq-STATE_BYTE : goal.returns-then-at-eq-STATE_BYTE
unfolding table_byte_sound
returns-then-at-eq-STATE_BYTE c = eq_yes _ 10 _ c.if-at-eq-STATE_BYTE.true (λ i. c.is_file.ensures i && c.state_sound.ensures i)

pub returns : goal.returns
unfolding table_byte_sound
returns c = eq_no _ 10 _ c.if-at-eq-STATE_BYTE.false (λ i. eqb c.args.at 9 && (eqb c.args.r.kind 6 && c.newest_sound.ensures i))

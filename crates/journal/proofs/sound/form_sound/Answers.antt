-- `journal::sound::form_sound` meets its contract. Assumes nothing.
use borrow.Author.Tests.{eq-eqb, ne_eqb}
use Rattle.octets.proofs.Picks.{eq_no, picks}
use Rattle.journal.specs.Sound.{form_sound}
use Rattle.journal.proofs.sound.form_sound.Goals as goal

pub returns-then-kind-eq-MARKS_START : goal.returns-then-kind-eq-MARKS_START
unfolding form_sound
returns-then-kind-eq-MARKS_START c = search picks

pub returns-then-kind-eq-HOLDS_FILE_BYTES : goal.returns-then-kind-eq-HOLDS_FILE_BYTES
unfolding form_sound
returns-then-kind-eq-HOLDS_FILE_BYTES c = search picks

pub returns-then-kind-ne-HOLDS_TABLE_BYTE : goal.returns-then-kind-ne-HOLDS_TABLE_BYTE
unfolding form_sound
returns-then-kind-ne-HOLDS_TABLE_BYTE c = eq_no _ 1 _ c.if-kind-eq-MARKS_START.false (eq_no _ 2 _ c.if-kind-eq-HOLDS_FILE_BYTES.false (rw (ne_eqb c.args.kind 3 c.if-kind-ne-HOLDS_TABLE_BYTE.true)))

pub returns-then-n-ne1 : goal.returns-then-n-ne1
unfolding form_sound
returns-then-n-ne1 c = eq_no _ 1 _ c.if-kind-eq-MARKS_START.false (eq_no _ 2 _ c.if-kind-eq-HOLDS_FILE_BYTES.false (rw (eq-eqb c.args.kind 3 c.if-kind-ne-HOLDS_TABLE_BYTE.false, ne_eqb c.args.n 1 c.if-n-ne1.true)))

pub returns : goal.returns
unfolding form_sound
returns c = eq_no _ 1 _ c.if-kind-eq-MARKS_START.false (eq_no _ 2 _ c.if-kind-eq-HOLDS_FILE_BYTES.false (rw (eq-eqb c.args.kind 3 c.if-kind-ne-HOLDS_TABLE_BYTE.false, eq-eqb c.args.n 1 c.if-n-ne1.false) c.table_place_sound.ensures))

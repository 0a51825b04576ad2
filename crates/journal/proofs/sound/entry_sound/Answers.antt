-- `journal::sound::entry_sound` meets its contract. Assumes nothing.
use mathlib.Core.Path.{refl}
use native.Mathlib.Omega.{arith}
use Rattle.journal.proofs.Entries.{readable-fits}
use Rattle.journal.proofs.Tested.{entry_empty, entry_first}
use Rattle.journal.proofs.sound.entry_sound.Goals as goal

pub tail_at-tail-requires : goal.tail_at-tail-requires
tail_at-tail-requires c = omega (arith, readable-fits c.args.journal.now c.args.u refl c.requires.1)

pub returns-then-n-eq0 : goal.returns-then-n-eq0
returns-then-n-eq0 c =
    entry_empty c.args.table.now c.args.files c.args.journal.now c.args.u c.tail_at-tail.ensures.0 c.if-n-eq0.true c.form_sound.ensures

pub overflow_sub-at : goal.overflow_sub-at
overflow_sub-at c = omega (arith, readable-fits c.args.journal.now c.args.u c.tail_at-tail.ensures.0 c.requires.1)

pub returns : goal.returns
returns c =
    let l = c.tail_at-tail in
    entry_first c.args.table.now c.args.files c.args.journal.now c.args.u l.ensures.0 c.requires.0 c.requires.1 (omega (arith, c.if-n-eq0.false)) c.wide-old.ensures.0 c.form_sound-2.ensures

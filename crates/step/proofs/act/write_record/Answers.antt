-- `step::act::write_record` meets its contract: the record's write and then the newest place's, one after the other. Assumes nothing.
use native.Mathlib.Omega.{arith}
use Rattle.card.specs.Lent.{held}
use Rattle.journal.specs.Changes.{cost}
use Rattle.journal.proofs.Pushed.{own_used}
use Rattle.plan.specs.Promised.{record_writes}
use Rattle.step.proofs.Acts.{second_left, record_steps}
use Rattle.step.proofs.act.write_record.Goals as goal

pub write-next-requires : goal.write-next-requires
unfolding cost record_writes
write-next-requires c =
    let ready = c.requires in
    let in_record = ready.fits.inside in
    let in-journal = ready.left in
    record {
      inside = ready.fits.file;
      within = omega (arith, ready.whole);
      head = ready.head;
      short = ready.short;
      left = omega (arith, own_used c.args.card.now.journal.now ready.head);
    }

pub write-requires : goal.write-requires
write-requires c =
    let ready = c.requires in
    let k = held c.args.card.now in
    let w = c.write-next.ensures in
    record {
      inside = omega (arith, ready.fits.entry, c.place_of_newest.ensures);
      within = omega arith;
      head = w.2;
      short = omega (arith, ready.short);
      left = omega (arith, own_used _ w.2, second_left k.table k.files k.journal c.args.r c.args.new.now ready w.0 w.1);
    }

pub returns-clause-written : goal.returns-clause-written
returns-clause-written c =
    let k = held c.args.card.now in
    let w = c.write-next.ensures in
    let v = c.write.ensures in
    record_steps k.table k.files k.journal c.args.r c.args.new.now c.requires w.0 w.1 c.place_of_newest.ensures v.0 v.1

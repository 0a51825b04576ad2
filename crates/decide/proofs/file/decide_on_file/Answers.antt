-- `decide::file::decide_on_file` meets its contract: what is decided but for the journal's room, and then with it. Assumes nothing.
use native.Mathlib.Omega.{arith}
use Rattle.journal.proofs.Pushed.{own_used}
use Rattle.decide.proofs.Costs.{fits-brief}
use Rattle.decide.proofs.Passed.{able, journal_parts, room-decided}
use Rattle.decide.proofs.file.decide_on_file.Goals as goal

pub head_of-used-requires : goal.head_of-used-requires
head_of-used-requires g c = let h = (journal_parts c.requires.0).size in omega arith

pub room_of-room-requires : goal.room_of-room-requires
room_of-room-requires g c = let h = (journal_parts c.requires.0).size in omega arith

pub file_command-d-requires : goal.file_command-d-requires
file_command-d-requires g c = let p = c.requires in (able p.0, p.1, p.2)

pub with_room-requires : goal.with_room-requires
with_room-requires g c =
    record {
      brief = c.requires.0.bytes.brief;
      short = c.head_of-used.ensures.1;
      inside = rw (own_used _ c.head_of-used.ensures.0, c.room_of-room.ensures) (journal_parts c.requires.0).used;
      cost = fits-brief _ _ _ _ c.file_command-d.ensures.fits;
    }

pub returns : goal.returns
returns g c =
    let a = c.args.a in
    let p = c.requires in
    room-decided a.asked.format a.asked.domain a.asked.command a.asked.«data».now a.session a.table.now a.files.now a.journal.now _ p.0 p.1 p.2 (own_used _ c.head_of-used.ensures.0) c.room_of-room.ensures (omega arith) c.file_command-d.ensures c.with_room.ensures

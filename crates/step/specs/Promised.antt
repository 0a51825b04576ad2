-- What writing a new record, doing a change and running a command on a card ask for.
use Rattle.std.specs.Prelude.{ℕ, ◌≤◌, ◌<◌, ◌≡◌, List, length}
use Rattle.card.specs.Row.{Card}
use Rattle.journal.specs.declared.Head.{Head}
use Rattle.journal.specs.Entries.{head_of}
use Rattle.journal.specs.Promised.{HasRoom}
use Rattle.journal.specs.Changes.{cost}
use Rattle.session.specs.declared.Standing.{Standing}
use Rattle.command.specs.declared.Command.{Command}
use Rattle.plan.specs.declared.NewRecord.{NewRecord}
use Rattle.plan.specs.declared.Change.{Change}
use Rattle.plan.specs.Promised.{record_writes, writes_of, RecordFits, Fits}
use Rattle.decide.specs.Promised.{DecideAsks}
use Rattle.step.specs.Limits.{most_kept}

-- a new record can be written: it lies inside the card, its bytes are a record, and the journal, whose head is given, has room for its
-- writes
pub record WriteRecordAsks (card : Card) (h : Head) (r : NewRecord) (new : List ℕ) : Type 0 where
  pub fits : RecordFits (length card.table) (length card.files) r
  pub whole : length new ≡ r.record_length
  pub head : h ≡ head_of card.journal
  pub short : length card.journal ≤ 65535
  pub left : HasRoom card.journal (cost (record_writes r new))

-- a change can be done, with the command's data and the bytes at whose start stands what it made: it lies inside the card, and the
-- journal, whose used bytes are a 16-bit number, has room for its writes
pub record PerformAsks (card : Card) (change : Change) («data» bytes : List ℕ) : Type 0 where
  pub fits : Fits (length card.table) (length card.files) (length «data») change
  pub short : length card.journal < 65536
  pub left : HasRoom card.journal (cost (writes_of change «data» bytes))

-- a command with `lc` data bytes may run on a card, for a script that stands at `s`, with `before` bytes of R-APDUs kept
pub record RunCommandAsks (card : Card) (s : Standing) (c : Command) (lc before : ℕ) : Type 0 where
  pub ready : DecideAsks card s c lc
  pub kept : before ≤ most_kept

-- What promises speak of besides the rules: what a decision of the code stands for, where what it writes lies, what every record file
-- has, and what the instructions ask.
use Rattle.std.specs.Prelude.{ℕ, ◌+◌, ◌*◌, ◌≤◌, ◌<◌, List, [], ◌∷◌, ◌≡◌, false, length, take}
use Rattle.octets.specs.Choice.{pick}
use Rattle.card.specs.declared.Row.{Row}
use Rattle.card.specs.Row.{is_cyclic, place_of_newest}
use Rattle.card.specs.Promised.{RowFits, RecordOffsetAsks}
use Rattle.card.specs.Sound.{most_records, record_count}
use Rattle.card.specs.Records.{record_offset, oldest_place}
use Rattle.journal.specs.declared.Memory.TheVariants.{Files, Table}
use Rattle.journal.specs.Changes.{Write}
use Rattle.session.specs.declared.Standing.{Standing}
use Rattle.session.specs.Session.{most_waiting}
use Rattle.session.specs.Promised.{FcpFits}
use Rattle.command.specs.declared.Command.{Command}
use Rattle.command.specs.declared.checks.Check.TheVariants.{SumTooLong}
use Rattle.plan.specs.declared.NewRecord.{NewRecord}
use Rattle.plan.specs.declared.Change.{Change}
use Rattle.plan.specs.declared.Change.TheVariants.{Nothing, Content, DataRecord, SumRecord, TableByte}
use Rattle.plan.specs.declared.Decision.{Decision}
use Rattle.plan.specs.Ends.{Plan, failed}
use Rattle.plan.specs.Files.{File, longest_increase, sum_too_long}
use Rattle.plan.specs.Plans.{offset_of, named_by}

-- what every record file of a sound table has, over a file memory of `files` bytes
pub record Recorded (files : ℕ) (r : Row) : Type 0 where
  pub row : RowFits r
  pub least : 1 ≤ r.record_length
  pub counted : 1 ≤ record_count r
  pub most : record_count r ≤ most_records
  pub inside : r.start + r.size ≤ files

-- the writes of a new record
unfoldable pub record_writes : NewRecord → List ℕ → List Write
record_writes r new =
    record { memory = Files; place = r.start + r.record_length * r.place; new = new }
    ∷ record { memory = Table; place = place_of_newest r.entry; new = r.place ∷ [] }
    ∷ []

-- the writes of a change, with the command's data and the bytes that it made
unfoldable pub writes_of : Change → List ℕ → List ℕ → List Write
writes_of Nothing «data» bytes = []
writes_of (Content start size offset) «data» bytes =
    record { memory = Files; place = start + offset; new = «data» } ∷ []
writes_of (DataRecord r) «data» bytes = record_writes r «data»
writes_of (SumRecord r) «data» bytes = record_writes r (take r.record_length bytes)
writes_of (TableByte place new) «data» bytes = record { memory = Table; place = place; new = new ∷ [] } ∷ []

-- the plan of a decision, with the command's data and the bytes at whose start stands what it made
unfoldable pub plan_of : Decision → List ℕ → List ℕ → Plan
plan_of d «data» bytes =
    record {
      session = d.session;
      outcome = d.outcome;
      made = take d.made bytes;
      writes = writes_of d.change «data» bytes;
    }

-- where a new record lies, in a table of `table` bytes and a file memory of `files` bytes
pub record RecordFits (table files : ℕ) (r : NewRecord) : Type 0 where
  pub file : r.start + r.size ≤ files
  pub inside : r.record_length * r.place + r.record_length ≤ r.size
  pub entry : place_of_newest r.entry < table
  pub byte : r.place < 256

-- a change lies inside a table of `table` bytes and a file memory of `files` bytes, with `lc` data bytes and 255 bytes for what is
-- made
unfoldable pub Fits : ℕ → ℕ → ℕ → Change → Type 0
Fits table files lc Nothing = Unit
Fits table files lc (Content start size offset) = (start + size ≤ files) × (offset + lc ≤ size)
Fits table files lc (DataRecord r) = RecordFits table files r × (lc ≡ r.record_length)
Fits table files lc (SumRecord r) = RecordFits table files r × (r.record_length ≤ most_waiting)
Fits table files lc (TableByte place new) = (place < table) × (new < 256)

-- the new record of a cyclic file
unfoldable pub newest_of : ℕ → Row → NewRecord
newest_of file r =
    record { entry = file; start = r.start; size = r.size; record_length = r.record_length; place = oldest_place r }

-- what DC writes
unfoldable pub update_change : Command → Standing → Row → Change
update_change c s r =
    pick (is_cyclic r)
    (DataRecord (newest_of s.file r))
    (Content r.start r.size (record_offset r (named_by c s.record_number r)))

-- a plan after the check of a file command's sum
unfoldable pub summed : ℕ → File → List ℕ → Standing → Plan → Plan
summed i f «data» s plan = pick (sum_too_long i f «data») (failed s SumTooLong) plan

-- SELECT of entry e asks that its row has an FCP and fields that fit, and that e is a byte
pub record SelectEntryAsks (e : ℕ) (r : Row) : Type 0 where
  pub fcp : FcpFits r
  pub row : RowFits r
  pub entry : e < 256

-- READ BINARY asks that the row's fields fit, that P1 and P2 are bytes, and that the offset lies in the file
pub record ReadBinaryAsks (c : Command) (r : Row) : Type 0 where
  pub row : RowFits r
  pub p1 : c.p1 < 256
  pub p2 : c.p2 < 256
  pub inside : offset_of c < r.size

-- UPDATE RECORD asks that the row's fields fit, that the file has records, whose number is a byte, and for a file that is not cyclic
-- that it has the record that is named
pub record UpdateRecordAsks (c : Command) (s : Standing) (r : Row) : Type 0 where
  pub row : RowFits r
  pub least : 1 ≤ r.record_length
  pub counted : 1 ≤ record_count r
  pub most : record_count r < 256
  pub named : is_cyclic r ≡ false → RecordOffsetAsks r (named_by c s.record_number r)

-- counting the records to search asks that they are not empty, that the file has the one of the number, and that it has no more
-- than a sound file has
pub record ToSearchAsks (r : Row) (number : ℕ) : Type 0 where
  pub least : 1 ≤ r.record_length
  pub first : 1 ≤ number
  pub last : number ≤ record_count r
  pub most : record_count r ≤ most_records

-- a search from record `from` on asks for a record file that has that record
pub record SearchAsks (files : List ℕ) (r : Row) (from : ℕ) : Type 0 where
  pub file : Recorded (length files) r
  pub first : 1 ≤ from
  pub last : from ≤ record_count r

-- INCREASE asks for a record file with records that are no longer than it takes, and for no more data than a record has bytes
pub record IncreaseAsks (files «data» : List ℕ) (r : Row) : Type 0 where
  pub file : Recorded (length files) r
  pub short : r.record_length ≤ longest_increase
  pub fits : length «data» ≤ r.record_length

-- a sum has no more bytes than can wait
unfoldable pub CostOfAsks : Change → Type 0
CostOfAsks Nothing = Unit
CostOfAsks (Content start size offset) = Unit
CostOfAsks (DataRecord r) = Unit
CostOfAsks (SumRecord r) = r.record_length ≤ most_waiting
CostOfAsks (TableByte place new) = Unit

-- What each command does where it ends well.
use Rattle.std.specs.Prelude.{ℕ, ◌+◌, ◌-◌, ◌*◌, min, List, [], ◌∷◌, ◌++◌, leb, eqb}
use Rattle.octets.specs.Choice.{pick}
use Rattle.octets.specs.Bytes.{bytes_of}
use Rattle.card.specs.declared.Row.{Row}
use Rattle.std.specs.Prelude.{Option, Some, None}
use Rattle.card.specs.Row.{is_cyclic, is_deactivated, activated, deactivated, place_of_state}
use Rattle.card.specs.Records.{record_offset}
use Rattle.journal.specs.declared.Memory.TheVariants.{Table}
use Rattle.session.specs.declared.Standing.{Standing}
use Rattle.session.specs.Session.{at_record, selected}
use Rattle.session.specs.Fcp.{fcp}
use Rattle.command.specs.declared.Format.{Format}
use Rattle.command.specs.declared.Format.TheVariants.{Compact, Expanded}
use Rattle.command.specs.declared.Command.{Command}
use Rattle.command.specs.declared.checks.Check.TheVariants.{NotFound}
use Rattle.command.specs.Instructions as ins
use Rattle.command.specs.Instructions.{no_data}
use Rattle.plan.specs.Ends.{Plan, failed, done, handed, waited, produced}
use Rattle.command.specs.Outcomes.{normal, end_of_data, selected_deactivated}
use Rattle.plan.specs.Files.{File, named_record, number_after, absolute_record, found_records, sum, write_in, new_record}

-- the situation that a command is given in: the format, the access domain, the command with its data, the session, the entry
-- that a SELECT finds with its row, and what is seen of the current file
pub record Situation : Type 0 where
  pub format : Format
  pub domain : ℕ
  pub command : Command
  pub «data» : List ℕ
  pub session : Standing
  pub found : Option ℕ
  pub row : Row
  pub file : File

-- "A deactivated file gives 6283."
unfoldable pub select_word : Row → ℕ
select_word r = pick (is_deactivated r) selected_deactivated normal

-- SELECT of an entry
unfoldable pub select_entry : Format → Standing → ℕ → ℕ → Row → Plan
select_entry format s p2 e r =
    pick (eqb p2 no_data)
    (done (selected s e r) (select_word r) [])
    (produced format (selected s e r) (select_word r) (fcp r) [])

unfoldable pub select : Format → Standing → ℕ → Row → Option ℕ → Plan
select format s p2 r (Some e) = select_entry format s p2 e r
select format s p2 r None = failed s NotFound

-- "offset P1P2"
unfoldable pub offset_of : Command → ℕ
offset_of c = c.p1 * 256 + c.p2

-- "P3 00: to the end, at most 256."
unfoldable pub most_read : Format → ℕ
most_read Compact = 256
most_read Expanded = 256

-- "B0 READ BINARY, offset P1P2: P3 bytes, or the bytes left with 6282 if fewer. P3 00: to the end, at most 256."
unfoldable pub read_binary : Format → Command → Standing → File → Plan
read_binary format c s f =
    let place : ℕ = f.row.start + offset_of c in
    let left : ℕ = f.row.size - offset_of c in
    pick (eqb c.p3 0)
    (handed s normal place (min left (most_read format)))
    (pick (leb c.p3 left) (handed s normal place c.p3) (handed s end_of_data place left))

-- "D6 UPDATE BINARY writes only the named bytes in the file's own part of the memory."
unfoldable pub update_binary : Command → List ℕ → Standing → File → Plan
update_binary c «data» s f = done s normal (write_in f (offset_of c) «data» ∷ [])

-- the record that a command names, from the current record number: A2 as B2 and DC do in their absolute mode, "(00: current, or 6A83)"
unfoldable pub named_by : Command → ℕ → Row → ℕ
named_by c number r =
    pick (eqb c.instruction ins.search)
    (absolute_record c.p1 number)
    (named_record r c.p1 c.p2 number)

-- B2 and DC: the record number after a record was named
unfoldable pub at_named : Command → Standing → ℕ → Standing
at_named c s number = at_record s (number_after c.p2 s.record_number number)

-- B2 READ RECORD
unfoldable pub read_record : Command → Standing → File → Plan
read_record c s f =
    let number : ℕ = named_by c s.record_number f.row in
    handed (at_named c s number) normal (f.row.start + record_offset f.row number) f.row.record_length

-- DC UPDATE RECORD; "on cyclic: .. it writes the oldest place, which becomes newest, record number 1"
unfoldable pub update_record : Command → List ℕ → Standing → File → Plan
update_record c «data» s f =
    let number : ℕ = named_by c s.record_number f.row in
    pick (is_cyclic f.row)
    (done (at_record s 1) normal (new_record f «data»))
    (done (at_named c s number) normal (write_in f (record_offset f.row number) «data» ∷ []))

-- A2 SEARCH: "the first becomes current. None: 6282, no data."
unfoldable pub searched : Format → Standing → List ℕ → Plan
searched format s [] = done s end_of_data []
searched format s (r ∷ rs) = produced format (at_record s r) normal (r ∷ rs) []

unfoldable pub search : Format → Command → List ℕ → Standing → File → Plan
search format c «data» s f =
    searched format s (found_records f.row f.content c.p2 «data» (named_by c s.record_number f.row))

-- "32 INCREASE, ..: record 1 plus the data becomes the new record 1, as DC would. Data: new record, then the added bytes."
unfoldable pub increase : Format → List ℕ → Standing → File → Plan
increase format «data» s f =
    let new : List ℕ = bytes_of f.row.record_length (sum f.row f.content «data») in
    produced format (at_record s 1) normal (new ++ «data») (new_record f new)

-- "04, 44 .. deactivate, activate the current file; repeating it is 9000, journalled too."
unfoldable pub switch : ℕ → Standing → File → Plan
switch state s f =
    done s normal (record { memory = Table; place = place_of_state f.entry; new = state ∷ [] } ∷ [])

-- "C0 GET RESPONSE (compact): the first P3 waiting bytes, 00 all, with the kept word."
unfoldable pub get_response : Command → Standing → Plan
get_response c s = waited s s.word (pick (eqb c.p3 0) s.valid c.p3)

-- what an instruction does in a situation where every check holds
unfoldable pub done_by : ℕ → Situation → Plan
done_by i w =
    pick (eqb i ins.select) (select w.format w.session w.command.p2 w.row w.found)
    (pick (eqb i ins.read_binary) (read_binary w.format w.command w.session w.file)
    (pick (eqb i ins.update_binary) (update_binary w.command w.«data» w.session w.file)
    (pick (eqb i ins.read_record) (read_record w.command w.session w.file)
    (pick (eqb i ins.update_record) (update_record w.command w.«data» w.session w.file)
    (pick (eqb i ins.search) (search w.format w.command w.«data» w.session w.file)
    (pick (eqb i ins.increase) (increase w.format w.«data» w.session w.file)
    (pick (eqb i ins.deactivate) (switch deactivated w.session w.file)
    (pick (eqb i ins.activate) (switch activated w.session w.file)
    (get_response w.command w.session)))))))))

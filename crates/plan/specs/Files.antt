-- What a file command may see, and the records that it names.
use Rattle.std.specs.Prelude.{ℕ, zero, suc, ◌+◌, ◌-◌, ◌*◌, ◌^◌, Bool, ◌&&◌, List, [], ◌∷◌, ◌++◌, leb, ltb, eqb}
use Rattle.octets.specs.Choice.{pick}
use Rattle.octets.specs.Bytes.{part, contains, value}
use Rattle.card.specs.declared.Row.{Row}
use Rattle.card.specs.Row.{Card, row_of, is_cyclic, place_of_newest}
use Rattle.card.specs.Sound.{record_count}
use Rattle.card.specs.Records.{record_offset, oldest_place}
use Rattle.journal.specs.declared.Memory.TheVariants.{Files, Table}
use Rattle.journal.specs.Entries.{used_bytes, room}
use Rattle.journal.specs.Changes.{Write}
use Rattle.session.specs.declared.Standing.{Standing}
use Rattle.session.specs.Session.{none}
use Rattle.command.specs.Instructions as ins

-- a file command sees the file's entry number, its row and its content, and of the journal the used bytes and the room
pub record File : Type 0 where
  pub entry : ℕ
  pub row : Row
  pub content : List ℕ
  pub used : ℕ
  pub room : ℕ

-- the entry that a command works on
abbrev pub target : Standing → ℕ
target s = s.file

-- what is seen of an entry of a card
unfoldable pub file_at : Card → ℕ → File
file_at c e =
    record {
      entry = e;
      row = row_of c.table e;
      content = part c.files (row_of c.table e).start (row_of c.table e).size;
      used = used_bytes c.journal;
      room = room c.journal;
    }

-- "Next from none is the first ..; past an end 6A83 for linear, round for cyclic"; `none` where there is no such record
unfoldable pub next_record : Row → ℕ → ℕ
next_record r number = pick (ltb number (record_count r)) (number + 1) (pick (is_cyclic r) 1 none)

-- "previous from none the last"
unfoldable pub previous_record : Row → ℕ → ℕ
previous_record r number =
    pick (eqb number none)
    (record_count r)
    (pick (eqb number 1) (pick (is_cyclic r) (record_count r) none) (number - 1))

-- "absolute (P1, or the current one if 00, 6A83 without one"
unfoldable pub absolute_record : ℕ → ℕ → ℕ
absolute_record p1 number = pick (eqb p1 0) number p1

-- "P2 02 next, 03 previous (P1 00), 04 absolute"
abbrev pub mode_next : ℕ
mode_next = 2

abbrev pub mode_previous : ℕ
mode_previous = 3

abbrev pub mode_absolute : ℕ
mode_absolute = 4

-- the record that B2 or DC names, from the current record number
unfoldable pub named_record : Row → ℕ → ℕ → ℕ → ℕ
named_record r p1 p2 number =
    pick (eqb p2 mode_next)
    (next_record r number)
    (pick (eqb p2 mode_previous) (previous_record r number) (absolute_record p1 number))

-- "04 absolute .. the number stays"
unfoldable pub number_after : ℕ → ℕ → ℕ → ℕ
number_after p2 number named = pick (eqb p2 mode_absolute) number named

-- whether a file has a record of a number
unfoldable pub has_record : Row → ℕ → Bool
has_record r number = leb 1 number && leb number (record_count r)

-- the bytes of a record of a file, in its content
unfoldable pub record_bytes : Row → List ℕ → ℕ → List ℕ
record_bytes r content number = part content (record_offset r number) r.record_length

-- "A2 SEARCH, P2 04 from record P1 .. to the last, 05 back to the first"
abbrev pub search_forward : ℕ
search_forward = 4

abbrev pub search_backward : ℕ
search_backward = 5

-- a number, if it was found
unfoldable pub noted : Bool → ℕ → List ℕ
noted found number = pick found (number ∷ []) []

-- the number that comes next, and how many records are to be searched from a number on
unfoldable pub next_searched : ℕ → ℕ → ℕ
next_searched p2 number = pick (eqb p2 search_forward) (number + 1) (number - 1)

unfoldable pub to_search : Row → ℕ → ℕ → ℕ
to_search r p2 number = pick (eqb p2 search_forward) (record_count r + 1 - number) number

-- of n records from a number on: "numbers of records that contain the data, in that order"
unfoldable pub found_among : Row → List ℕ → ℕ → List ℕ → ℕ → ℕ → List ℕ
found_among r content p2 «data» zero number = []
found_among r content p2 «data» (suc n) number =
    noted (contains (record_bytes r content number) «data») number
    ++ found_among r content p2 «data» n (next_searched p2 number)

unfoldable pub found_records : Row → List ℕ → ℕ → List ℕ → ℕ → List ℕ
found_records r content p2 «data» number = found_among r content p2 «data» (to_search r p2 number) number

-- "INCREASE, .. record length at most 127"
abbrev pub longest_increase : ℕ
longest_increase = 127

-- "INCREASE, .. record 1 plus the data"
unfoldable pub sum : Row → List ℕ → List ℕ → ℕ
sum r content «data» = value (record_bytes r content 1) + value «data»

-- bytes written into a file, at an offset in it
unfoldable pub write_in : File → ℕ → List ℕ → Write
write_in f offset new = record { memory = Files; place = f.row.start + offset; new = new }

-- "DC on cyclic: .. it writes the oldest place, which becomes newest"
unfoldable pub new_record : File → List ℕ → List Write
new_record f new =
    write_in f (f.row.record_length * oldest_place f.row) new
    ∷ record { memory = Table; place = place_of_newest f.entry; new = oldest_place f.row ∷ [] }
    ∷ []

-- "sum too long 9850": it has no room in the record's bytes
unfoldable pub sum_too_long : ℕ → File → List ℕ → Bool
sum_too_long i f «data» = eqb i ins.increase && leb (256 ^ f.row.record_length) (sum f.row f.content «data»)

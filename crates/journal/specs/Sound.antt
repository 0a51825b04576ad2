-- The journal's soundness beside a table and a file memory.
use Rattle.std.specs.Prelude.{ℕ, ◌+◌, ◌/◌, ◌%◌, Bool, true, ◌&&◌, List, [], ◌∷◌, length, drop, leb, ltb, eqb}
use Rattle.octets.specs.Choice.{pick}
use Rattle.octets.specs.Bytes.{byte, part, all_zero, same}
use Rattle.card.specs.declared.Row.{Row}
use Rattle.card.specs.Row.{Card, entry_size, entries, row_of, newest_byte, state_byte, is_cyclic, is_file}
use Rattle.card.specs.Sound.{newest_sound, state_sound, sound_table}
use Rattle.journal.specs.Entries.{Entry, head_size, head, head_bytes, used_bytes, scripts_on_trial, room, entry_bytes, marks_start, holds_file_bytes, holds_table_byte, is_mark, entries_of}

-- "The journal has 2,048 bytes"
abbrev pub journal_length : ℕ
journal_length = 2048

-- "scripts on trial (0 to 16)"
abbrev pub most_scripts : ℕ
most_scripts = 16

-- "n 1 to 255"
abbrev pub most_old_bytes : ℕ
most_old_bytes = 255

-- the head: U at most the room, the scripts at most 16, byte 3 zero; "after them only zeros"
unfoldable pub head_sound : List ℕ → Bool
head_sound j =
    same (part j 0 head_size) (head_bytes (head (used_bytes j) (scripts_on_trial j) 0))
    && (leb (used_bytes j) (room j)
    && (leb (scripts_on_trial j) most_scripts && all_zero (drop (head_size + used_bytes j) j)))

-- a journal has room for a mark, which it has not with "16 scripts on trial, or U + 8 above 2,044"
unfoldable pub mark_fits : List ℕ → Bool
mark_fits j = ltb (scripts_on_trial j) most_scripts && leb (used_bytes j + entry_bytes 0) (room j)

-- "kind 3 one table byte, which is byte 10 of a file, or byte 9 of a cyclic file, with an old value sound there"
unfoldable pub table_byte_sound : Row → ℕ → ℕ → Bool
table_byte_sound r at old =
    pick (eqb at state_byte) (is_file r && state_sound old) (eqb at newest_byte && (is_cyclic r && newest_sound r old))

-- a place of the table: "Places lie inside their memory."
unfoldable pub table_place_sound : List ℕ → ℕ → ℕ → Bool
table_place_sound t place old =
    ltb (place / entry_size) (entries t)
    && table_byte_sound (row_of t (place / entry_size)) (place % entry_size) old

-- an entry of a kind, with its place, its number n of old bytes and the first of these, beside a table and a file memory of `files`
-- bytes; "Places lie inside their memory."
unfoldable pub form_sound : List ℕ → ℕ → ℕ → ℕ → ℕ → ℕ → Bool
form_sound t files kind place n old =
    pick (eqb kind marks_start)
    (eqb place 0 && eqb n 0)
    (pick (eqb kind holds_file_bytes)
    (leb 1 n && (leb n most_old_bytes && leb (place + n) files))
    (eqb kind holds_table_byte && (eqb n 1 && table_place_sound t place old)))

-- one entry
unfoldable pub entry_sound : List ℕ → ℕ → Entry → Bool
entry_sound t files e = form_sound t files e.kind e.place (length e.old) (byte e.old 0)

-- every entry of a list
unfoldable pub all_sound : List ℕ → ℕ → List Entry → Bool
all_sound t files [] = true
all_sound t files (e ∷ es) = entry_sound t files e && all_sound t files es

-- "the oldest is a mark"; with no entry there is no oldest
unfoldable pub last_is_mark : Bool → List Entry → Bool
last_is_mark last [] = last
last_is_mark last (e ∷ es) = last_is_mark (is_mark e) es

unfoldable pub oldest_is_mark : List Entry → Bool
oldest_is_mark es = last_is_mark true es

-- how many marks there are: "marks equal byte 2"
unfoldable pub marks : List Entry → ℕ
marks [] = 0
marks (e ∷ es) = pick (is_mark e) 1 0 + marks es

-- "Sound: entries fill U exactly, read back from the end, the oldest is a mark, marks equal byte 2."
unfoldable pub entries_sound : List ℕ → ℕ → ℕ → List Entry → Bool
entries_sound t files scripts es = all_sound t files es && (oldest_is_mark es && eqb (marks es) scripts)

-- a journal beside a table and a file memory
unfoldable pub sound_journal : List ℕ → List ℕ → List ℕ → Bool
sound_journal t files j =
    eqb (length j) journal_length
    && (head_sound j && entries_sound t (length files) (scripts_on_trial j) (entries_of j))

-- a card: table, file memory and journal
unfoldable pub sound_card : Card → Bool
sound_card c = sound_table c.table c.files && sound_journal c.table c.files c.journal

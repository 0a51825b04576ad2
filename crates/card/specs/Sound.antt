-- "Sound means": the rules of table and file memory, part by part.
use Rattle.std.specs.Prelude.{ℕ, ◌+◌, ◌/◌, ◌%◌, Bool, not, ◌&&◌, ◌||◌, List, length, leb, ltb, eqb}
use Rattle.octets.specs.Choice.{pick, all_below}
use Rattle.card.specs.declared.Row.{Row}
use Rattle.card.specs.Row.{entry_size, entries, row_of, is_adf, is_transparent, is_cyclic, is_directory, can_be_child, activated, deactivated}

-- "The table has 1 to 64 entries"
abbrev pub most_entries : ℕ
most_entries = 64

-- "File memory has 1 to 32,768 bytes."
abbrev pub most_file_bytes : ℕ
most_file_bytes = 32768

-- "Record files have record length 1 to 255 and 1 to 254 whole records"
abbrev pub longest_record : ℕ
longest_record = 255

abbrev pub most_records : ℕ
most_records = 254

-- how many whole records a file has
abbrev pub record_count : Row → ℕ
record_count r = r.size / r.record_length

-- "entry 0 is kind 1, 3F00, parent 0 and no one's child"
abbrev pub root_sound : Row → Bool
root_sound r = eqb r.kind 1 && (eqb r.identifier 0x3F00 && eqb r.parent 0)

-- "no other is kind 1. For all others a parent's number is smaller than its child's, and the parent is a directory"
abbrev pub place_sound : ℕ → Row → Row → Bool
place_sound e parent r = leb 2 r.kind && (leb r.kind 6 && (ltb r.parent e && is_directory parent))

-- "An ADF has parent 0 and identifier 7FFF; other entries never have 3F00, 3FFF or 7FFF."
unfoldable pub name_sound : Row → Bool
name_sound r =
    pick (is_adf r)
    (eqb r.parent 0 && eqb r.identifier 0x7FFF)
    (not (eqb r.identifier 0x3F00 || (eqb r.identifier 0x3FFF || eqb r.identifier 0x7FFF)))

-- "Directories have 0 in bytes 4-9 and 12, and state 05."
abbrev pub directory_sound : Row → Bool
directory_sound r =
    eqb r.start 0
    && (eqb r.size 0
    && (eqb r.record_length 0
    && (eqb r.newest 0
    && (eqb r.never 0
    && eqb r.state activated))))

-- "byte 9 is 0 unless cyclic, then below the record count"; the value of an entry's byte 9
unfoldable pub newest_sound : Row → ℕ → Bool
newest_sound r place = pick (is_cyclic r) (leb 1 r.record_length && ltb place (record_count r)) (eqb place 0)

-- "05 activated, 04 deactivated"; the value of a file's byte 10
abbrev pub state_sound : ℕ → Bool
state_sound state = eqb state deactivated || eqb state activated

-- "Record files have record length 1 to 255 and 1 to 254 whole records with nothing over. Byte 8 is 0 for kind 4"
unfoldable pub records_sound : Row → Bool
records_sound r =
    pick (is_transparent r)
    (eqb r.record_length 0)
    (leb 1 r.record_length
    && (leb r.record_length longest_record
    && (eqb (r.size % r.record_length) 0
    && (leb 1 (record_count r) && leb (record_count r) most_records))))

-- "A file has length 1 or more, lies inside file memory"; "NEVER bits: 1 .. 2 .. 4 .. 8 .. 16 ..; no others"
unfoldable pub file_sound : ℕ → Row → Bool
file_sound files r =
    leb 1 r.size
    && (leb (r.start + r.size) files
    && (records_sound r && (newest_sound r r.newest && (state_sound r.state && ltb r.never 32))))

-- "11 | 0"; "13-15 | 0": the bytes of an entry that have no meaning
abbrev pub zeros_sound : Row → Bool
zeros_sound r = eqb r.eleven 0 && (eqb r.thirteen 0 && eqb r.fifteen 0)

-- an entry by itself, over a file memory of `files` bytes
unfoldable pub own_sound : ℕ → Row → Bool
own_sound files r = zeros_sound r && pick (is_directory r) (directory_sound r) (file_sound files r)

-- an entry where it stands: its number, its parent's row and its own
unfoldable pub entry_sound : ℕ → ℕ → Row → Row → Bool
entry_sound files e parent r =
    own_sound files r && pick (eqb e 0) (root_sound r) (place_sound e parent r && name_sound r)

-- "Children of one parent, ADFs aside, have different identifiers."
abbrev pub named_apart : Row → Row → Bool
named_apart a b =
    not ((can_be_child a && can_be_child b) && (eqb a.parent b.parent && eqb a.identifier b.identifier))

-- "and overlaps no other"; a directory has start and length 0 and overlaps nothing
abbrev pub lie_apart : Row → Row → Bool
lie_apart a b = leb (a.start + a.size) b.start || leb (b.start + b.size) a.start

-- two entries
unfoldable pub pair_sound : Row → Row → Bool
pair_sound a b = named_apart a b && lie_apart a b

-- the entries one by one: `at` gives the row of each entry number
unfoldable pub entries_sound : ℕ → ℕ → (ℕ → Row) → Bool
entries_sound n files at = all_below n (λ e. entry_sound files e (at (at e).parent) (at e))

-- the pairs: each entry and each before it
unfoldable pub pairs_sound : ℕ → (ℕ → Row) → Bool
pairs_sound n at = all_below n (λ e. all_below e (λ d. pair_sound (at d) (at e)))

-- a table of `n` entries, over a file memory of `files` bytes
unfoldable pub sound_by : ℕ → ℕ → (ℕ → Row) → Bool
sound_by n files at = entries_sound n files at && pairs_sound n at

-- the lengths of table and file memory
unfoldable pub lengths_sound : ℕ → ℕ → Bool
lengths_sound table files =
    eqb (table % entry_size) 0
    && (leb 1 (table / entry_size)
    && (leb (table / entry_size) most_entries && (leb 1 files && leb files most_file_bytes)))

-- a table over a file memory is sound
unfoldable pub sound_table : List ℕ → List ℕ → Bool
sound_table t files = lengths_sound (length t) (length files) && sound_by (entries t) (length files) (row_of t)

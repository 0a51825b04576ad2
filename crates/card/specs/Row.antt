-- "The lent card": the three memories, and the table's entries of 16 bytes.
use Rattle.std.specs.Prelude.{ℕ, ◌+◌, ◌*◌, ◌/◌, ◌≤◌, Bool, not, ◌&&◌, ◌||◌, List, length, leb, eqb}
use Rattle.octets.specs.Bytes.{byte, num_at, part}
use Rattle.card.specs.declared.Row.{Row}

-- what is lent: the table, the file memory and the journal
pub record Card : Type 0 where
  pub table : List ℕ
  pub files : List ℕ
  pub journal : List ℕ

-- the card of three memories
abbrev pub lent : List ℕ → List ℕ → List ℕ → Card
lent t files j = record { table = t; files = files; journal = j }

-- "The table has .. entries of 16 bytes"
abbrev pub entry_size : ℕ
entry_size = 16

-- how many entries a table has
abbrev pub entries : List ℕ → ℕ
entries t = length t / entry_size

-- a table has all bytes of entry e
abbrev pub HasEntry : List ℕ → ℕ → Type 0
HasEntry t e = entry_size * e + entry_size ≤ length t

-- the 16 bytes of an entry
unfoldable pub entry : List ℕ → ℕ → List ℕ
entry t e = part t (entry_size * e) entry_size

-- what the bytes of an entry hold: "file identifier", "parent's entry number", "start and length in file memory", "record length"
unfoldable pub row : List ℕ → Row
row bs =
    record {
      identifier = num_at bs 0;
      parent = byte bs 2;
      kind = byte bs 3;
      start = num_at bs 4;
      size = num_at bs 6;
      record_length = byte bs 8;
      newest = byte bs 9;
      state = byte bs 10;
      eleven = byte bs 11;
      never = byte bs 12;
      thirteen = num_at bs 13;
      fifteen = byte bs 15;
    }

-- an entry of a table, as what its bytes hold
unfoldable pub row_of : List ℕ → ℕ → Row
row_of t e = row (entry t e)

-- the bytes of an entry that a command writes, "place (from 0) of the newest record" and the state, and their places in the table
abbrev pub newest_byte : ℕ
newest_byte = 9

abbrev pub state_byte : ℕ
state_byte = 10

abbrev pub place_of_newest : ℕ → ℕ
place_of_newest e = entry_size * e + newest_byte

abbrev pub place_of_state : ℕ → ℕ
place_of_state e = entry_size * e + state_byte

-- "kind: 1 MF, 2 DF, 3 ADF, 4 transparent, 5 linear fixed, 6 cyclic"
abbrev pub is_mf : Row → Bool
is_mf r = eqb r.kind 1

abbrev pub is_df : Row → Bool
is_df r = eqb r.kind 2

abbrev pub is_adf : Row → Bool
is_adf r = eqb r.kind 3

abbrev pub is_transparent : Row → Bool
is_transparent r = eqb r.kind 4

abbrev pub is_linear : Row → Bool
is_linear r = eqb r.kind 5

abbrev pub is_cyclic : Row → Bool
is_cyclic r = eqb r.kind 6

-- "a directory (kinds 1 to 3)"
abbrev pub is_directory : Row → Bool
is_directory r = leb 1 r.kind && leb r.kind 3

-- a file: "4 transparent, 5 linear fixed, 6 cyclic"
abbrev pub is_file : Row → Bool
is_file r = leb 4 r.kind && leb r.kind 6

-- a record file: "5 linear fixed, 6 cyclic"
abbrev pub has_records : Row → Bool
has_records r = is_linear r || is_cyclic r

-- a DF or a file: what can be the child of a directory ("entry 0 is .. no one's child", "ADFs match only as root")
abbrev pub can_be_child : Row → Bool
can_be_child r = not (eqb r.kind 0 || (is_mf r || is_adf r))

-- "05 activated, 04 deactivated"
abbrev pub activated : ℕ
activated = 5

abbrev pub deactivated : ℕ
deactivated = 4

abbrev pub is_deactivated : Row → Bool
is_deactivated r = eqb r.state deactivated

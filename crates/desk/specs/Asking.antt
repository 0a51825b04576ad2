-- One operation as a line of text.
use Rattle.std.specs.Prelude.{ℕ, ◌-◌, ◌/◌, List, length, drop, eqb, Option, Some, None, option_map, option_and_then}
use Rattle.octets.specs.Choice.{pick}
use Rattle.octets.specs.Bytes.{starts_with}
use Rattle.lines.specs.Digits.{ascii, plain_number, is_hex}
use Rattle.operations.specs.Rows.{select, update, read, update_record, read_record, increase, search, is_read}
use Rattle.desk.specs.declared.fields.Fields.{Fields}
use Rattle.desk.specs.declared.asking.Asking.{Asking}
use Rattle.desk.specs.Fields.{fields, which_at, way_at, offset_at}

-- an operation whose bytes are the digits from the place behind the fields to the line's end
unfoldable pub with_bytes : ℕ → List ℕ → Fields → Option Asking
with_bytes kind line f =
    pick (is_hex (drop f.at line))
    (Some (record { kind = kind; mode = f.mode; number = f.number; count = (length line - f.at) / 2; from = f.at }))
    None

-- a read of so many bytes
unfoldable pub with_count : ℕ → List ℕ → Fields → Option Asking
with_count kind line f =
    option_map (λ count. record { kind = kind; mode = f.mode; number = f.number; count = count; from = length line })
    (plain_number (drop f.at line))

-- the kind of operation that a line names, if it names one
unfoldable pub kind_of : List ℕ → Option ℕ
kind_of line =
    pick (starts_with line (ascii "select=")) (Some select)
    (pick (starts_with line (ascii "update=")) (Some update)
    (pick (starts_with line (ascii "read=")) (Some read)
    (pick (starts_with line (ascii "update-record=")) (Some update_record)
    (pick (starts_with line (ascii "read-record=")) (Some read_record)
    (pick (starts_with line (ascii "increase=")) (Some increase) (pick (starts_with line (ascii "search=")) (Some search) None))))))

-- the fields behind the name, but for the last
unfoldable pub which_of : ℕ → List ℕ → Option Fields
which_of kind line =
    pick (eqb kind select) (Some (fields 0 0 7))
    (pick (eqb kind update) (offset_at line 7)
    (pick (eqb kind read) (offset_at line 5)
    (pick (eqb kind update_record) (which_at line 14)
    (pick (eqb kind read_record) (which_at line 12)
    (pick (eqb kind increase) (Some (fields 0 0 9)) (pick (eqb kind search) (way_at line 7) None))))))

-- the operation of a line: a read wants so many bytes, any other brings bytes
unfoldable pub line_of : List ℕ → Option Asking
line_of line =
    option_and_then (λ kind.
    option_and_then (λ f. pick (is_read kind) (with_count kind line f) (with_bytes kind line f))
    (which_of kind line))
    (kind_of line)

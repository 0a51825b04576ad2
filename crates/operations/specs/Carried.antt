-- "one that the format can't carry (a read that isn't last in compact)", and what no command has room for.
use Rattle.std.specs.Prelude.{ℕ, ◌+◌, ◌%◌, Bool, true, false, not, ◌&&◌, ◌||◌, List, [], ◌∷◌, leb, ltb, eqb, Result, Ok, Err}
use Rattle.octets.specs.Choice.{pick}
use Rattle.command.specs.declared.Format.{Format}
use Rattle.command.specs.declared.Format.TheVariants.{Compact, Expanded}
use Rattle.operations.specs.declared.rows.Operation.{Operation}
use Rattle.operations.specs.declared.Refusal.{Refusal}
use Rattle.operations.specs.declared.Refusal.TheVariants.{NotCarried}
use Rattle.operations.specs.Rows.{select, increase, search, next, previous, absolute, forward, backward, is_read, is_binary, is_record}

-- "a compact or expanded script": format 0 or 1
abbrev pub is_format : ℕ → Bool
is_format format = leb format 1

abbrev pub number_of : Format → ℕ
number_of Compact = 0
number_of Expanded = 1

unfoldable pub format_of : ℕ → Result Format Refusal
format_of number = pick (eqb number 0) (Ok Compact) (pick (eqb number 1) (Ok Expanded) (Err (NotCarried 1)))

-- the largest number that a byte of a command holds, and the largest offset: "P1 above 7F" is none
abbrev pub most_in_byte : ℕ
most_in_byte = 0xFF

abbrev pub most_offset : ℕ
most_offset = 0x7FFF

-- the longest path: 8 identifiers
abbrev pub longest_path : ℕ
longest_path = 16

-- whether mode and number are those of a kind: an offset; a record by its number, or the next or previous with none; a way and a first
-- record; and nothing for SELECT and INCREASE
unfoldable pub mode_fits : ℕ → ℕ → ℕ → Bool
mode_fits kind mode number =
    pick (is_binary kind)
    (eqb mode 0 && leb number most_offset)
    (pick (is_record kind)
    (((eqb mode next || eqb mode previous) && eqb number 0) || (eqb mode absolute && leb number most_in_byte))
    (pick (eqb kind search)
    ((eqb mode forward || eqb mode backward) && leb number most_in_byte)
    ((eqb kind select || eqb kind increase) && (eqb mode 0 && eqb number 0))))

-- whether the bytes of an operation are as its kind asks, beside `size` bytes of data: a read wants up to 255 and brings none; a path has 1
-- to 8 identifiers of two bytes; other bytes are 1 to 255
unfoldable pub bytes_fit : ℕ → ℕ → ℕ → ℕ → Bool
bytes_fit size kind from count =
    pick (is_read kind)
    (eqb from 0 && leb count most_in_byte)
    (pick (ltb size (from + count))
    false
    (pick (eqb kind select)
    (leb 2 count && (leb count longest_path && eqb (count % 2) 0))
    (leb 1 count && leb count most_in_byte)))

-- whether a format carries an operation; `last` tells that none comes after it
unfoldable pub is_carried : ℕ → ℕ → Bool → Operation → Bool
is_carried format size last o =
    is_format format
    && (mode_fits o.kind o.mode o.number
    && (bytes_fit size o.kind o.from o.count && (not (is_read o.kind) || (last || eqb format 1))))

unfoldable pub is_none : List Operation → Bool
is_none [] = true
is_none (o ∷ os) = false

-- the number of the first operation that is not carried, where the first of the list has the number `n`; 0 where all are carried
unfoldable pub first_not_carried : ℕ → ℕ → ℕ → List Operation → ℕ
first_not_carried format size n [] = 0
first_not_carried format size n (o ∷ os) =
    elim (is_carried format size (is_none os) o) [ true ↦ first_not_carried format size (n + 1) os | false ↦ n ]

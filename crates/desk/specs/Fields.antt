-- The fields of a line, with a comma between two: numbers are decimal with no zero in front, bytes upper-case hex in pairs.
use Rattle.std.specs.Prelude.{ℕ, ◌+◌, ◌-◌, List, length, drop, ltb, Option, Some, None, option_map}
use Rattle.octets.specs.Choice.{pick}
use Rattle.octets.specs.Bytes.{part, starts_with}
use Rattle.lines.specs.Digits.{ascii, plain_number}
use Rattle.lines.specs.Values.{value_end, before}
use Rattle.operations.specs.Rows.{next, previous, absolute, forward, backward}
use Rattle.desk.specs.declared.fields.Fields.{Fields}

abbrev pub comma : ℕ
comma = 0x2C

-- a mode, a number, and the place of what follows
abbrev pub fields : ℕ → ℕ → ℕ → Fields
fields mode number at = record { mode = mode; number = number; at = at }

-- the number between a place and the next comma, and the place behind it
unfoldable pub number_field : List ℕ → ℕ → Option (ℕ × ℕ)
number_field line at =
    pick (ltb (value_end comma line at) (length line))
    (before (value_end comma line at + 1) (plain_number (part line at (value_end comma line at - at))))
    None

-- a mode with a number
unfoldable pub numbered : ℕ → Option (ℕ × ℕ) → Option Fields
numbered mode field = option_map (λ (number, place). fields mode number place) field

-- which record: next, previous, or one by its number, 0 being the current one
unfoldable pub which_at : List ℕ → ℕ → Option Fields
which_at line at =
    pick (starts_with (drop at line) (ascii "next,"))
    (Some (fields next 0 (at + 5)))
    (pick (starts_with (drop at line) (ascii "previous,"))
    (Some (fields previous 0 (at + 9)))
    (numbered absolute (number_field line at)))

-- the way of a search, and its first record, which has a number
unfoldable pub way_at : List ℕ → ℕ → Option Fields
way_at line at =
    pick (starts_with (drop at line) (ascii "forward,"))
    (numbered forward (number_field line (at + 8)))
    (pick (starts_with (drop at line) (ascii "backward,")) (numbered backward (number_field line (at + 9))) None)

-- an offset
unfoldable pub offset_at : List ℕ → ℕ → Option Fields
offset_at line at = numbered 0 (number_field line at)

-- "It reads application=, domain=, format=, script= from standard input, in that order, one line each: 1 to 3 decimal digits, two
-- hex digits, one decimal digit, 0 to 16,384 hex digits, even in number".
use Rattle.std.specs.Prelude.{ℕ, ◌+◌, List, length, ltb, Option, Some, None, IfSome, option_map, option_and_then}
use Rattle.octets.specs.Choice.{pick}
use Rattle.lines.specs.Digits.{ascii, most_digits}
use Rattle.lines.specs.Named.{line_feed}
use Rattle.lines.specs.Values.{hex_at, HexLies}
use Rattle.lines.specs.Calls.{call_at}
use Rattle.worked.specs.declared.input.Asked.{Asked}

-- the script's digits in the last line's value; nothing stands after that line
unfoldable pub script_in : List ℕ → ℕ × ℕ → Option (ℕ × ℕ)
script_in bs (from, to) = pick (ltb (to + 1) (length bs)) None (Some (from, to))

unfoldable pub script_at : List ℕ → ℕ → Option (ℕ × ℕ)
script_at bs at = option_and_then (script_in bs) (hex_at bs at (ascii "script=") line_feed most_digits)

-- the four lines, in that order
unfoldable pub input_of : List ℕ → Option Asked
input_of bs =
    option_and_then (λ (call, fourth). option_map (λ (from, to). record { call = call; from = from; to = to }) (script_at bs fourth))
    (call_at bs 0 (ascii "application=") line_feed)

-- what an input of the right shape promises: the script's digits lie in it, and they are a script
abbrev pub InputFits : List ℕ → Option Asked → Type 0
InputFits bs asked = IfSome asked (λ a. HexLies bs most_digits a.from a.to)

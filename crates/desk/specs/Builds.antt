-- What `./rfm build` prints.
use Rattle.std.specs.Prelude.{ℕ, ◌+◌, List, [], ◌++◌, length, take, Ok, Err}
use Rattle.octets.specs.Bytes.{zeros}
use Rattle.step.specs.Limits.{longest_script}
use Rattle.operations.specs.Builds.{Building, build}
use Rattle.lines.specs.Digits.{ascii, hex_of, decimal}
use Rattle.lines.specs.Named.{line_feed, named}
use Rattle.lines.specs.Values.{number_at, then}
use Rattle.desk.specs.Lists.{Listed, list_from, limited_text}

-- the number of a line that is not as asked, alone
unfoldable pub bad_lines : ℕ → List ℕ
bad_lines n = named (ascii "line=") (decimal n) line_feed

-- three lines
unfoldable pub building_lines : Building → List ℕ
building_lines b =
    named (ascii "refusal=") (decimal b.answer.refusal) line_feed
    ++ (named (ascii "operations=") (decimal b.answer.operations) line_feed
    ++ named (ascii "script=") (hex_of (take b.answer.length b.memory)) line_feed)

-- what is printed of a list
unfoldable pub listed_lines : ℕ → Listed → List ℕ
listed_lines format (Ok (rows, «data»)) = building_lines (build format rows «data» (zeros longest_script))
listed_lines format (Err n) = bad_lines n

-- the first line is `format=` and one digit; the operations come behind it
unfoldable pub printed_for : List ℕ → List ℕ
printed_for text =
    then (bad_lines 1) (number_at text 0 (ascii "format=") line_feed 10 1 1) λ format second.
    listed_lines format (list_from (length text + 1) text second 2 [] [])

unfoldable pub built : List ℕ → List ℕ
built text = printed_for (limited_text text)

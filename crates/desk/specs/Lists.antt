-- A list of operations as lines of text. Only a line feed ends a line, and that of the last may be missing.
use Rattle.std.specs.Prelude.{ℕ, zero, suc, ◌+◌, ◌-◌, true, false, List, [], ◌∷◌, ◌++◌, length, take, drop, leb, ltb, Result, Ok, Err, Some, None}
use Rattle.octets.specs.Choice.{pick}
use Rattle.octets.specs.Bytes.{bytes2, part}
use Rattle.lines.specs.Digits.{decoded}
use Rattle.lines.specs.Named.{line_feed}
use Rattle.lines.specs.Values.{value_end}
use Rattle.operations.specs.Rows.{is_read}
use Rattle.desk.specs.declared.asking.Asking.{Asking}
use Rattle.desk.specs.Asking.{line_of}

-- the line at a place
abbrev pub line_at : List ℕ → ℕ → List ℕ
line_at text at = part text at (value_end line_feed text at - at)

-- an operation as 8 bytes of a list, its bytes beginning at `from` in the data
unfoldable pub row_of : Asking → ℕ → List ℕ
row_of a from =
    a.kind ∷ a.mode ∷ (bytes2 a.number ++ (bytes2 (pick (is_read a.kind) 0 from) ++ bytes2 a.count))

-- a list with its data; or the number of the first line that is not as asked
abbrev pub Listed : Type 0
Listed = Result (List ℕ × List ℕ) ℕ

-- the operations from a place on, whose line has the number `number`, behind rows and data that were read
unfoldable pub list_from : ℕ → List ℕ → ℕ → ℕ → List ℕ → List ℕ → Listed
list_from zero text at number rows «data» = Err number
list_from (suc n) text at number rows «data» =
    elim (ltb at (length text)) [
      | true ↦
          elim (line_of (line_at text at)) [
            | Some a ↦
                list_from n text (value_end line_feed text at + 1) (number + 1) (rows ++ row_of a (length «data»))
                («data» ++ decoded (drop a.from (line_at text at)))
            | None ↦ Err number
          ]
      | false ↦ Ok (rows, «data»)
    ]

-- a text above 65,536 signs is not as asked in the line that the limit falls in: in place of what is too much stands a sign that no line has
abbrev pub most_text : ℕ
most_text = 65536

unfoldable pub limited_text : List ℕ → List ℕ
limited_text text = pick (leb (length text) most_text) text (take most_text text ++ (0 ∷ []))

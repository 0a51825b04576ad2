-- What the program prints. "refusal is the call number, executed the count, response the answer, used U and scripts byte 2 after
-- the run."
use Rattle.std.specs.Prelude.{ℕ, ◌+◌, ◌*◌, ◌-◌, List, [], ◌∷◌, ◌++◌, Option, Some, None}
use Rattle.octets.specs.Bytes.{part, zeros}
use Rattle.journal.specs.Entries.{used_bytes, scripts_on_trial}
use Rattle.engine.specs.Calls.{Result, run}
use Rattle.engine.specs.Worked.{worked, lent_response, answer_of}
use Rattle.lines.specs.Digits.{ascii, decoded, hex_of, decimal}
use Rattle.lines.specs.Named.{line_feed, named}
use Rattle.engine.specs.declared.Call.{Call}
use Rattle.worked.specs.declared.input.Asked.{Asked}
use Rattle.worked.specs.Input.{input_of}

-- the five lines
unfoldable pub five_lines : ℕ → ℕ → List ℕ → ℕ → ℕ → List ℕ
five_lines refusal executed response used scripts =
    named (ascii "refusal=") (decimal refusal) line_feed
    ++ (named (ascii "executed=") (decimal executed) line_feed
    ++ (named (ascii "response=") (hex_of response) line_feed
    ++ (named (ascii "used=") (decimal used) line_feed ++ named (ascii "scripts=") (decimal scripts) line_feed)))

-- the most that is printed: the names and line feeds have 44 bytes, each of the four numbers at most 20 digits, and each byte of the
-- answer two
abbrev pub most_printed : ℕ
most_printed = 124 + 2 * lent_response

-- what is printed of a run
unfoldable pub result_lines : Result → List ℕ
result_lines r =
    five_lines r.answer.number r.answer.count (answer_of r) (used_bytes r.card.journal) (scripts_on_trial r.card.journal)

-- "A program runs one script on this card."
unfoldable pub ran_on : Call → List ℕ → Result
ran_on call script =
    run
    (record {
      application = call.application;
      domain = call.domain;
      format = call.format;
      script = script;
      response = zeros lent_response;
    })
    worked

-- "Other input shapes print only `input=bad`."
unfoldable pub bad_line : List ℕ
bad_line = ascii "input=bad" ++ (line_feed ∷ [])

-- what is printed for each kind of input
unfoldable pub lines_for : List ℕ → Option Asked → List ℕ
lines_for bs (Some a) = result_lines (ran_on a.call (decoded (part bs a.from (a.to - a.from))))
lines_for bs None = bad_line

-- what the program prints for what it reads
unfoldable pub printed : List ℕ → List ℕ
printed bs = lines_for bs (input_of bs)

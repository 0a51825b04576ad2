-- What `./rfm read` prints.
use Rattle.std.specs.Prelude.{ℕ, ◌+◌, ◌*◌, ◌-◌, List, [], ◌∷◌, ◌++◌, length, ltb, Option, Some, None, Result, Ok, Err}
use Rattle.octets.specs.Choice.{pick}
use Rattle.octets.specs.Bytes.{bytes2, part}
use Rattle.answers.specs.declared.Summary.{Summary}
use Rattle.answers.specs.declared.results.Piece.{Piece}
use Rattle.answers.specs.declared.results.Piece.TheVariants as results
use Rattle.answers.specs.Told.{Reply, replied, bad_format, told_from}
use Rattle.answers.specs.Answers.{read_answer}
use Rattle.lines.specs.Digits.{ascii, decoded, hex_of, decimal}
use Rattle.lines.specs.Named.{line_feed, named}
use Rattle.lines.specs.Values.{number_at, hex_at, then}
use Rattle.desk.specs.declared.reads.Shown.{Shown}
use Rattle.desk.specs.Builds.{bad_lines}

-- an answer has 0 to 131,072 digits
abbrev pub most_answer_digits : ℕ
most_answer_digits = 131072

-- the lines of a result: word and data of an R-APDU, or the code of a Bad format TLV
unfoldable pub reply_lines : Reply → List ℕ
reply_lines (replied word d) =
    named (ascii "status=") (hex_of (bytes2 word)) line_feed ++ named (ascii "data=") (hex_of d) line_feed
reply_lines (bad_format code) = named (ascii "code=") (hex_of (code ∷ [])) line_feed

unfoldable pub all_lines : List Reply → List ℕ
all_lines [] = []
all_lines (r ∷ rs) = reply_lines r ++ all_lines rs

-- one result where the printing is: its lines, and how the printing goes on
unfoldable pub shown_lines : Option Piece → List ℕ → List ℕ
shown_lines (Some (results.Result word from count)) answer = reply_lines (replied word (part answer from count))
shown_lines (Some (results.BadFormat code place)) answer = reply_lines (bad_format code)
shown_lines None answer = []

abbrev pub shown : Option ℕ → ℕ → Shown
shown next to = record { next = next; to = to }

unfoldable pub shown_next : Option Piece → ℕ → Shown
shown_next (Some (results.Result word from count)) to = shown (Some (from + count + 2)) (to + 2 * count + 18)
shown_next (Some (results.BadFormat code there)) to = shown None (to + 8)
shown_next None to = shown None to

-- what is printed of a good answer
unfoldable pub read_lines : ℕ → List ℕ → ℕ → ℕ → ℕ → List ℕ
read_lines format answer count first end =
    named (ascii "count=") (decimal count) line_feed ++ all_lines (told_from (length answer) format answer first end)

-- what is printed of an answer; of a damaged one its place alone
unfoldable pub answered_lines : ℕ → List ℕ → Result Summary ℕ → List ℕ
answered_lines format answer (Ok s) = read_lines format answer s.count s.first s.end
answered_lines format answer (Err place) = named (ascii "place=") (decimal place) line_feed

-- the second line is missing or not as asked, or there is a third
unfoldable pub answer_in : ℕ → List ℕ → ℕ → ℕ → List ℕ
answer_in format text from to =
    pick (ltb (to + 1) (length text))
    (bad_lines 3)
    (answered_lines format (decoded (part text from (to - from))) (read_answer format (decoded (part text from (to - from)))))

unfoldable pub told : List ℕ → List ℕ
told text =
    then (bad_lines 1) (number_at text 0 (ascii "format=") line_feed 10 1 1) λ format second.
    then (bad_lines 2) (hex_at text second (ascii "answer=") line_feed most_answer_digits) λ from to.
    answer_in format text from to

-- "and a reader for both answer forms": it reads an answer once, from front to back, and where it cannot go on, there is the "first bad byte".
use Rattle.std.specs.Prelude.{ℕ, zero, suc, ◌+◌, ◌-◌, Bool, true, false, not, ◌&&◌, ◌||◌, List, length, leb, ltb, eqb, Option, Some, None, Result, Ok, Err}
use Rattle.octets.specs.Choice.{pick}
use Rattle.octets.specs.Bytes.{byte, num_at}
use Rattle.plan.specs.Plans.{most_read}
use Rattle.command.specs.declared.Format.TheVariants as formats
use Rattle.command.specs.Outcomes.{goes_on}
use Rattle.answers.specs.declared.words.Words.TheVariants as words
use Rattle.answers.specs.declared.results.Piece.{Piece}
use Rattle.answers.specs.declared.results.Piece.TheVariants as pieces
use Rattle.answers.specs.declared.turns.Turn.{Turn}
use Rattle.answers.specs.declared.Summary.{Summary}
use Rattle.answers.specs.Words.{has_data, word_at}
use Rattle.answers.specs.Results.{sized_at, piece_at, compact_word, compact_data}

-- ---- compact: "Answer: count, status, data of a last outgoing command."

-- what stands behind the word
unfoldable pub data_read : List ℕ → ℕ → Result Summary ℕ
data_read answer word =
    pick (ltb compact_data (length answer) && not (has_data word))
    (Err compact_data)
    (pick (ltb (compact_data + most_read formats.Compact) (length answer))
    (Err (compact_data + most_read formats.Compact))
    (Ok (record { count = byte answer 0; first = compact_word; end = length answer })))

unfoldable pub word_read : List ℕ → Result ℕ ℕ → Result Summary ℕ
word_read answer (Ok word) = data_read answer word
word_read answer (Err place) = Err place

unfoldable pub compact_read : List ℕ → Result Summary ℕ
compact_read answer = pick (eqb (byte answer 0) 0) (Err 0) (word_read answer (word_at words.Compact answer compact_word))

-- ---- expanded: the results one after the other

-- a result was read: the next place, and how many results may still come
unfoldable pub went_on : Turn → ℕ → ℕ → Turn
went_on t place left = record { at = place; seen = t.seen + 1; left = left }

-- how many may come behind a word: none where it stops the script; in AB one less than before, while AF names no number
unfoldable pub left_behind : Bool → ℕ → ℕ → ℕ
left_behind definite word left = pick (goes_on word) (pick definite (left - 1) left) 0

-- what a turn comes to: the next turn, or none where the results end; or the place of a bad byte
unfoldable pub turned_by : Bool → Turn → Result Piece ℕ → Result (Option Turn) ℕ
turned_by definite t (Ok (pieces.Result word from count)) =
    Ok (Some (went_on t (from + count + 2) (left_behind definite word t.left)))
turned_by definite t (Ok (pieces.BadFormat code place)) = Ok (Some (went_on t (place + 1) 0))
turned_by definite t (Err place) = Err place

-- the end of AB's value: a count above 0 has a result, and nothing comes behind
unfoldable pub definite_end : ℕ → ℕ → Turn → Result (Option Turn) ℕ
definite_end size end t = pick ((eqb t.seen 0 && ltb 0 t.left) || ltb end size) (Err end) (Ok None)

-- 00 in a tag's place: 00 comes behind it, and then nothing
unfoldable pub indefinite_end : List ℕ → Turn → Result (Option Turn) ℕ
indefinite_end answer t =
    pick (ltb (t.at + 1) (length answer) && eqb (byte answer (t.at + 1)) 0)
    (pick (ltb (t.at + 2) (length answer)) (Err (t.at + 2)) (Ok None))
    (Err (t.at + 1))

-- one turn of the reading
unfoldable pub turned : List ℕ → Bool → ℕ → Turn → Result (Option Turn) ℕ
turned answer definite end t =
    pick (definite && eqb t.at end)
    (definite_end (length answer) end t)
    (pick (leb (length answer) t.at)
    (Err (length answer))
    (pick (not definite && eqb (byte answer t.at) 0)
    (indefinite_end answer t)
    (pick (eqb t.left 0) (Err t.at) (turned_by definite t (piece_at answer definite end t.at)))))

-- the reading from a turn on, `n` turns at most: the turn at the end of the results, or the place of the first bad byte
unfoldable pub turns_from : ℕ → List ℕ → Bool → ℕ → Turn → Result Turn ℕ
turns_from zero answer definite end t = Err t.at
turns_from (suc n) answer definite end t =
    elim (turned answer definite end t) [
      | Ok (Some next) ↦ turns_from n answer definite end next
      | Ok None ↦ Ok t
      | Err place ↦ Err place
    ]

-- before the first result
unfoldable pub first_turn : ℕ → ℕ → Turn
first_turn at left = record { at = at; seen = 0; left = left }

-- what comes of the reading: AB says its count, of AF it is the number of results
unfoldable pub answered_by : Bool → ℕ → ℕ → Result Turn ℕ → Result Summary ℕ
answered_by definite count first (Ok t) =
    Ok (record { count = pick definite count t.seen; first = first; end = t.at })
answered_by definite count first (Err place) = Err place

-- each result takes a byte or more, and one turn more sees the end
unfoldable pub results_read : List ℕ → Bool → ℕ → ℕ → ℕ → Result Summary ℕ
results_read answer definite end count first =
    answered_by definite count first
    (turns_from (length answer + 1) answer definite end (first_turn first (pick definite count 1)))

-- ---- expanded: what stands before the results

-- "count as shortest signed integer (128 is 00 80)", which is never negative: `n` bytes of it from a place on
unfoldable pub count_read : List ℕ → ℕ → ℕ → ℕ → Result Summary ℕ
count_read answer end n from =
    pick (leb (length answer) from)
    (Err (length answer))
    (pick (leb 0x80 (byte answer from))
    (Err from)
    (pick (eqb n 1)
    (results_read answer true end (byte answer from) (from + 1))
    (pick (leb (length answer) (from + 1))
    (Err (length answer))
    (pick (eqb (byte answer from) 0 && ltb (byte answer (from + 1)) 0x80)
    (Err (from + 1))
    (results_read answer true end (num_at answer from) (from + 2))))))

unfoldable pub count_sized : List ℕ → ℕ → Result (ℕ × ℕ) ℕ → Result Summary ℕ
count_sized answer end (Ok (n, from)) = pick (leb 1 n && leb n 2) (count_read answer end n from) (Err (from - 1))
count_sized answer end (Err place) = Err place

-- "80, length, count", in a value that ends at `end`
unfoldable pub count_at : List ℕ → ℕ → ℕ → Result Summary ℕ
count_at answer end at =
    pick (not (eqb (byte answer at) 0x80) || eqb (at + 1) end)
    (Err at)
    (count_sized answer end (sized_at answer true end (at + 1)))

-- "AB, length, 80, length, count": this length has no end to pass
unfoldable pub definite_sized : List ℕ → Result (ℕ × ℕ) ℕ → Result Summary ℕ
definite_sized answer (Ok (n, from)) = pick (eqb n 0) (Err (from - 1)) (count_at answer (from + n) from)
definite_sized answer (Err place) = Err place

unfoldable pub definite_read : List ℕ → Result Summary ℕ
definite_read answer = definite_sized answer (sized_at answer false 0 1)

-- "AF 80, all R-APDUs, 00 00"
unfoldable pub indefinite_read : List ℕ → Result Summary ℕ
indefinite_read answer = pick (eqb (byte answer 1) 0x80) (results_read answer false 0 0 2) (Err 1)

unfoldable pub expanded_read : List ℕ → Result Summary ℕ
expanded_read answer =
    pick (eqb (byte answer 0) 0xAB)
    (definite_read answer)
    (pick (eqb (byte answer 0) 0xAF) (indefinite_read answer) (Err 0))

-- the reader: "a damaged answer is refused with the place of its first bad byte"
unfoldable pub read_answer : ℕ → List ℕ → Result Summary ℕ
read_answer format answer =
    pick (eqb format 0) (compact_read answer) (pick (eqb format 1) (expanded_read answer) (Err 0))

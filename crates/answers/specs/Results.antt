-- One result of an answer: an R-APDU, "23, length, data, status", or a "Bad format TLV 90 01". Each reading that fails has its place.
use Rattle.std.specs.Prelude.{ℕ, ◌+◌, ◌-◌, Bool, true, not, ◌&&◌, ◌||◌, List, length, leb, ltb, eqb, Option, Some, None, Result, Ok, Err}
use Rattle.std.specs.Result.{result_ok}
use Rattle.octets.specs.Choice.{pick}
use Rattle.octets.specs.Bytes.{byte}
use Rattle.tlv.specs.Lengths.{length_at, length_missing}
use Rattle.tlv.specs.declared.lengths.Length.{Length}
use Rattle.tlv.specs.declared.lengths.Length.TheVariants as lengths
use Rattle.plan.specs.Plans.{most_read}
use Rattle.command.specs.declared.Format.TheVariants as formats
use Rattle.answers.specs.declared.words.Words.{Words}
use Rattle.answers.specs.declared.words.Words.TheVariants as words
use Rattle.answers.specs.declared.results.Piece.{Piece}
use Rattle.answers.specs.declared.results.Piece.TheVariants as pieces
use Rattle.answers.specs.Words.{has_data, word_at}

-- how many bytes the form of a length has behind its first
unfoldable pub form_bytes : ℕ → ℕ
form_bytes first = pick (eqb first 0x81) 1 (pick (eqb first 0x82) 2 0)

-- where the reading of a length stops that is none: a byte is missing; or its first byte begins no form, or it is not the shortest
unfoldable pub length_stop : List ℕ → ℕ → ℕ → ℕ
length_stop answer at code = pick (eqb code length_missing) (length answer) (at + form_bytes (byte answer at))

-- a length at a place, and where its value begins; in AB the value does not pass the end
unfoldable pub sized_by : List ℕ → Bool → ℕ → ℕ → Length → Result (ℕ × ℕ) ℕ
sized_by answer definite end at (lengths.Found n from) =
    pick (not definite || leb (from + n) end) (Ok (n, from)) (Err (from - 1))
sized_by answer definite end at (lengths.Bad code) = Err (length_stop answer at code)

unfoldable pub sized_at : List ℕ → Bool → ℕ → ℕ → Result (ℕ × ℕ) ℕ
sized_at answer definite end at = sized_by answer definite end at (length_at answer at (length answer))

-- an R-APDU from its word, behind `count` data bytes
unfoldable pub rapdu_ends : ℕ → ℕ → Result ℕ ℕ → Result Piece ℕ
rapdu_ends from count (Ok word) = Ok (pieces.Result word from count)
rapdu_ends from count (Err place) = Err place

-- the words that an R-APDU of so many data bytes can end with
unfoldable pub words_behind : ℕ → Words
words_behind count = pick (eqb count 0) words.Expanded words.WithData

-- an R-APDU from its length: two bytes of it are the word
unfoldable pub rapdu_of : List ℕ → Result (ℕ × ℕ) ℕ → Result Piece ℕ
rapdu_of answer (Ok (n, from)) =
    pick (ltb n 2)
    (Err (from - 1))
    (rapdu_ends from (n - 2) (word_at (words_behind (n - 2)) answer (from + (n - 2))))
rapdu_of answer (Err place) = Err place

-- a Bad format TLV from its length: "90 01", and a code 01 to 03
unfoldable pub bad_format_of : List ℕ → Result (ℕ × ℕ) ℕ → Result Piece ℕ
bad_format_of answer (Ok (n, from)) =
    pick (not (eqb n 1))
    (Err (from - 1))
    (pick (leb (length answer) from)
    (Err (length answer))
    (pick (leb 1 (byte answer from) && leb (byte answer from) 3) (Ok (pieces.BadFormat (byte answer from) from)) (Err from)))
bad_format_of answer (Err place) = Err place

-- what a tag begins, 23 or 90
abbrev pub is_tag : ℕ → Bool
is_tag tag = eqb tag 0x23 || eqb tag 0x90

unfoldable pub value_of : List ℕ → ℕ → Result (ℕ × ℕ) ℕ → Result Piece ℕ
value_of answer tag s = pick (eqb tag 0x23) (rapdu_of answer s) (bad_format_of answer s)

-- what stands at a place: in AB it is more than the value's last byte
unfoldable pub piece_at : List ℕ → Bool → ℕ → ℕ → Result Piece ℕ
piece_at answer definite end at =
    pick ((definite && leb end (at + 1)) || not (is_tag (byte answer at)))
    (Err at)
    (value_of answer (byte answer at) (sized_at answer definite end (at + 1)))

-- ---- a result on its own

-- where the one word of a compact answer stands, and where its data begin
abbrev pub compact_word : ℕ
compact_word = 1

abbrev pub compact_data : ℕ
compact_data = 3

-- whether `count` data bytes can stand behind a word of a compact answer
unfoldable pub data_fit : ℕ → ℕ → Bool
data_fit word count = eqb count 0 || (has_data word && leb count (most_read formats.Compact))

-- the one result of a compact answer that ends at `end`
unfoldable pub compact_told : ℕ → Result ℕ ℕ → Option Piece
compact_told end (Ok word) =
    pick (leb compact_data end && data_fit word (end - compact_data)) (Some (pieces.Result word compact_data (end - compact_data))) None
compact_told end (Err place) = None

unfoldable pub compact_at : List ℕ → ℕ → ℕ → Option Piece
compact_at answer at end = pick (eqb at compact_word) (compact_told end (word_at words.Compact answer compact_word)) None

-- the whole result that stands at a place of an answer whose results end at `end`, or none
unfoldable pub result_at : ℕ → List ℕ → ℕ → ℕ → Option Piece
result_at format answer at end =
    pick (ltb (length answer) end)
    None
    (pick (eqb format 0)
    (compact_at answer at end)
    (pick (eqb format 1) (result_ok (piece_at answer true end at)) None))

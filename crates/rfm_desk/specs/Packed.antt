-- What a caller in C gets of the desk's calls.
use Rattle.std.specs.Prelude.{ℕ, ◌+◌, ◌*◌, ◌^◌, ◌/◌, ◌%◌, List, length, ltb, Option, Some, None, Result, Ok, Err}
use Rattle.octets.specs.Choice.{pick}
use Rattle.boundary.specs.Packed.{packed, number_in, count_in, length_in}
use Rattle.operations.specs.declared.Numbers.{Numbers}
use Rattle.operations.specs.Builds.{Building}
use Rattle.answers.specs.declared.Summary.{Summary}
use Rattle.answers.specs.declared.results.Piece.{Piece}
use Rattle.answers.specs.declared.results.Piece.TheVariants as pieces
use Rattle.answers.specs.Results.{result_at}
use Rattle.answers.specs.Answers.{read_answer}

-- ---- a build

-- the answer that the three macros of include/rfm.h take from a number
abbrev pub built_in : ℕ → Numbers
built_in sum = record { refusal = number_in sum; operations = count_in sum; length = length_in sum }

-- what a caller gets: one number, the answer that the macros take from it, and the script memory
pub record Crossed : Type 0 where
  pub sum : ℕ
  pub answer : Numbers
  pub memory : List ℕ

abbrev pub crosses : ℕ → List ℕ → Crossed
crosses sum memory = record { sum = sum; answer = built_in sum; memory = memory }

unfoldable pub across : Building → Crossed
across b =
    record {
      sum = packed b.answer.refusal b.answer.operations b.answer.length;
      answer = b.answer;
      memory = b.memory;
    }

-- ---- an answer that is read

-- the longest answer that is read: no engine answers more, and a larger count would find no room
abbrev pub most_answer : ℕ
most_answer = 16777215

-- number, count and place in one: 0 read, 1 damaged, 2 too long
pub record Parts : Type 0 where
  pub number : ℕ
  pub count : ℕ
  pub place : ℕ

abbrev pub parts_in : ℕ → Parts
parts_in sum = record { number = number_in sum; count = count_in sum; place = length_in sum }

unfoldable pub read_parts : Result Summary ℕ → Parts
read_parts (Ok s) = record { number = 0; count = s.count; place = s.first }
read_parts (Err place) = record { number = 1; count = 0; place = place }

unfoldable pub answer_parts : ℕ → List ℕ → Parts
answer_parts format answer =
    pick (ltb most_answer (length answer)) (record { number = 2; count = 0; place = 0 }) (read_parts (read_answer format answer))

abbrev pub packed_parts : Parts → ℕ
packed_parts p = packed p.number p.count p.place

-- ---- a result

-- RFM_WORD of include/rfm_desk.h: result & 0xFFFF
unfoldable pub word_in : ℕ → ℕ
word_in sum = sum % 2 ^ 16

-- RFM_DATA_LENGTH: result >> 16 & 0xFFFF
unfoldable pub data_length_in : ℕ → ℕ
data_length_in sum = sum / 2 ^ 16 % 2 ^ 16

-- RFM_DATA: result >> 32
unfoldable pub data_in : ℕ → ℕ
data_in sum = sum / 2 ^ 32

-- a word, the place of its data and how many there are; a code with no data; or nothing
pub record Shown : Type 0 where
  pub word : ℕ
  pub data_length : ℕ
  pub place : ℕ

abbrev pub shown : ℕ → ℕ → ℕ → Shown
shown word count place = record { word = word; data_length = count; place = place }

abbrev pub shown_in : ℕ → Shown
shown_in sum = shown (word_in sum) (data_length_in sum) (data_in sum)

unfoldable pub told_parts : Option Piece → Shown
told_parts (Some (pieces.Result word from count)) = shown word count from
told_parts (Some (pieces.BadFormat code place)) = shown code 0 0
told_parts None = shown 0 0 0

unfoldable pub result_parts : ℕ → List ℕ → ℕ → Shown
result_parts format answer place =
    pick (ltb most_answer (length answer)) (shown 0 0 0) (told_parts (result_at format answer place (length answer)))

unfoldable pub packed_shown : Shown → ℕ
packed_shown s = s.word + (2 ^ 16 * s.data_length + 2 ^ 32 * s.place)

-- A call's result as it crosses the C boundary: its answer in one number, and the lent memories.
use Rattle.std.specs.Prelude.{ℕ, List}
use Rattle.boundary.specs.Packed.{packed, number_in, count_in, length_in}
use Rattle.card.specs.Row.{Card}
use Rattle.engine.specs.declared.Answer.{Answer}
use Rattle.engine.specs.Calls.{Result}

-- an answer in one number
abbrev pub packed_answer : Answer → ℕ
packed_answer a = packed a.number a.count a.length

-- the answer that the three macros take from a number
abbrev pub answer_in : ℕ → Answer
answer_in sum = record { number = number_in sum; length = length_in sum; count = count_in sum }

-- what a caller in C gets: one number, the answer that the macros take from it, the card and the response memory
pub record Crossed : Type 0 where
  pub sum : ℕ
  pub answer : Answer
  pub card : Card
  pub response : List ℕ

abbrev pub crosses : ℕ → Card → List ℕ → Crossed
crosses sum card response = record { sum = sum; answer = answer_in sum; card = card; response = response }

-- what a caller in C gets of a call's result: its answer packed into the number, and taken from it again as it was
unfoldable pub across : Result → Crossed
across r =
    record { sum = packed_answer r.answer; answer = r.answer; card = r.card; response = r.response }

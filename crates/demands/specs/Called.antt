-- A call with all that it is called with, what it gives on a card, and what its caller gets to see of that.
use Rattle.std.specs.Prelude.{ℕ, List, [], take}
use Rattle.card.specs.Row.{Card}
use Rattle.engine.specs.declared.Answer.{Answer}
use Rattle.engine.specs.Numbers.{Arguments}
use Rattle.engine.specs.Calls.{Result, run, take_back, confirm}

-- a call: a run with all its arguments, its response memory among them, a take-back, or a confirmation
pub data Call : Type 0 where
  running : Arguments → Call
  taking_back confirming : Call

-- what a call on a card gives: its answer, the card after it, and the response memory after it
unfoldable pub result_of : Call → Card → Result
result_of (running a) c = run a c
result_of taking_back c = take_back c
result_of confirming c = confirm c

-- the call's number
abbrev pub number : Result → ℕ
number r = r.answer.number

-- the response memory that a call is lent: a run's own, and none for the two others
unfoldable pub lent_response : Call → List ℕ
lent_response (running a) = a.response
lent_response taking_back = []
lent_response confirming = []

-- what a caller gets to see of a call: its answer and the response memory
pub record Seen : Type 0 where
  pub answer : Answer
  pub response : List ℕ

unfoldable pub seen : Result → Seen
seen r = record { answer = r.answer; response = r.response }

-- what a caller is told by a call: its answer, and the answer's bytes, which are the first `length` of the response memory
pub record Told : Type 0 where
  pub answer : Answer
  pub bytes : List ℕ

unfoldable pub told : Seen → Told
told s = record { answer = s.answer; bytes = take s.answer.length s.response }

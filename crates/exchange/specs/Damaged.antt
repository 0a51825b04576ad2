-- "a damaged answer is refused with the place of its first bad byte".
use Rattle.std.specs.Prelude.{ℕ, ◌+◌, ◌≤◌, ◌<◌, List, ◌≡◌, length, take, Ok, Err}
use Rattle.octets.specs.Bytes.{AllBytes}
use Rattle.card.specs.Row.{Card}
use Rattle.engine.specs.Numbers.{Arguments, format_of}
use Rattle.engine.specs.Calls.{run}
use Rattle.engine.specs.Worked.{answer_of}
use Rattle.demands.specs.Called.{number}
use Rattle.demands.specs.Demand2.{format_number}
use Rattle.answers.specs.declared.Summary.{Summary}
use Rattle.answers.specs.Answers.{read_answer}

-- an answer of which the reader says that the byte at a place is bad
pub record Damaged (format : ℕ) (answer : List ℕ) (place : ℕ) : Type 0 where
  -- the place is at most the answer's length
  pub inside : place ≤ length answer
  -- and where a byte stands there, no answer of any run in this format starts with the bytes up to it
  pub none :
      place < length answer → (a : Arguments) (c : Card) → AllBytes a.script → number (run a c) ≡ 0
      → format_number (format_of a.format a.script) ≡ format
      → take (place + 1) (answer_of (run a c)) ≡ take (place + 1) answer → ⊥

abbrev pub EachDamaged : Type 0
EachDamaged = (format : ℕ) (answer : List ℕ) (place : ℕ) → AllBytes answer → read_answer format answer ≡ Err place → Damaged format answer place

-- every beginning of a good expanded answer is bad at its length, and so is every beginning of a compact one before its third byte
abbrev pub CutExpanded : Type 0
CutExpanded =
    (answer : List ℕ) (s : Summary) (n : ℕ) → AllBytes answer → read_answer 1 answer ≡ Ok s → n < length answer
    → read_answer 1 (take n answer) ≡ Err n

abbrev pub CutCompact : Type 0
CutCompact =
    (answer : List ℕ) (s : Summary) (n : ℕ) → AllBytes answer → read_answer 0 answer ≡ Ok s → n < 3
    → read_answer 0 (take n answer) ≡ Err n

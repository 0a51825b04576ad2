-- What promises speak of besides the rules: where the fields of a line lie, what a list is held in, and how much is printed at most.
use Rattle.std.specs.Prelude.{ℕ, ◌+◌, ◌*◌, ◌≤◌, ◌<◌, ◌≡◌, true, List, length, take, drop, Option, IfSome, Result, Ok, Err, IfOk}
use Rattle.step.specs.Limits.{longest_script}
use Rattle.operations.specs.Rows.{row_size}
use Rattle.lines.specs.Digits.{all_hex}
use Rattle.desk.specs.declared.fields.Fields.{Fields}
use Rattle.desk.specs.declared.asking.Asking.{Asking}
use Rattle.desk.specs.Lists.{Listed}

-- fields that were read: the mode is a byte, and what follows begins at the place `first` or behind it, in the line or at its end
pub record FieldsLie (first size : ℕ) (f : Fields) : Type 0 where
  pub byte : f.mode < 256
  pub behind : first ≤ f.at
  pub inside : f.at ≤ size

abbrev pub FieldsFit : ℕ → ℕ → Option Fields → Type 0
FieldsFit first size fields = IfSome fields (FieldsLie first size)

-- an operation that a line asks for: what stands behind its fields are the digits of its bytes, and none for a read
pub record AskingFits (line : List ℕ) (a : Asking) : Type 0 where
  pub kind : a.kind < 256
  pub mode : a.mode < 256
  pub inside : a.from ≤ length line
  pub hex : all_hex (drop a.from line) ≡ true
  -- the shortest are `select=` and `read=0,0`
  pub named : row_size ≤ length line + 1

abbrev pub LineFits : List ℕ → Option Asking → Type 0
LineFits line asking = IfSome asking (AskingFits line)

-- the list that two memories hold at their starts, or the number of a line
abbrev pub held_in : List ℕ → List ℕ → Result (ℕ × ℕ) ℕ → Listed
held_in rows «data» (Ok (n, k)) = Ok (take n rows, take k «data»)
held_in rows «data» (Err number) = Err number

-- room for all operations of a text, each of which takes 8 signs, and for their bytes, each of which takes two
abbrev pub room_for_rows : ℕ
room_for_rows = 65544

abbrev pub room_for_data : ℕ
room_for_data = 32776

-- a list and its data find that room
abbrev pub ListingFits : Result (ℕ × ℕ) ℕ → Type 0
ListingFits listing = IfOk listing (λ (n, k). (n ≤ room_for_rows) × (k ≤ room_for_data))

-- the most that is printed of a build: three names, two numbers, three line feeds, and two digits for each byte of a script
abbrev pub most_built : ℕ
most_built = 76 + 2 * longest_script

-- the longest answer of the right shape, and the most that is printed of one: a count, and five signs for each byte
abbrev pub longest_answer : ℕ
longest_answer = 65536

abbrev pub most_told : ℕ
most_told = 64 + 5 * longest_answer

-- what printing a result asks: its word is two bytes, its data lie in the answer, and its lines find room
pub record ShowAsks (answer : List ℕ) (word from count : ℕ) (out : List ℕ) (to : ℕ) : Type 0 where
  pub small : word < 65536
  pub inside : from + count ≤ length answer
  pub room : to + 2 * count + 18 ≤ length out

-- a printing of results at a place of an answer: its place is at most two bytes behind the answer, and no more is printed than five signs
-- for each byte before it
pub record ShownFits (answer out : List ℕ) (place to : ℕ) : Type 0 where
  pub short : length answer ≤ longest_answer
  pub placed : place ≤ length answer + 2
  pub printed : to ≤ 27 + 5 * place
  pub room : most_told ≤ length out

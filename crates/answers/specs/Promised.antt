-- What promises speak of besides the rules: every place lies in the answer, and every number finds its room.
use Rattle.std.specs.Prelude.{ℕ, ◌+◌, ◌≤◌, ◌<◌, Option, Some, None, Result, Ok, Err}
use Rattle.answers.specs.declared.results.Piece.{Piece}
use Rattle.answers.specs.declared.results.Piece.TheVariants as pieces
use Rattle.answers.specs.declared.turns.Turn.{Turn}
use Rattle.answers.specs.declared.Summary.{Summary}

-- a length that was read at a place: its value begins further on; or where its reading stops
unfoldable pub SizedFits : ℕ → ℕ → Result (ℕ × ℕ) ℕ → Type 0
SizedFits size at (Ok (n, from)) = (at < from) × (from ≤ size) × (n < 65536)
SizedFits size at (Err place) = (at ≤ place) × (place ≤ size)

-- a result on its own: its data lie further on in the answer, and its numbers find room in one number at the C boundary
pub record ToldResult (size at word from count : ℕ) : Type 0 where
  pub further : at + 2 ≤ from
  pub inside : from + count ≤ size
  pub small : word < 65536
  pub few : count < 65536

unfoldable pub ToldFits : ℕ → ℕ → Option Piece → Type 0
ToldFits size at (Some (pieces.Result word from count)) = ToldResult size at word from count
ToldFits size at (Some (pieces.BadFormat code place)) = code ≤ 3
ToldFits size at None = Unit

-- a reading of results on its way: its place lies in the answer, and each result took a byte or more
pub record TurnFits (size : ℕ) (t : Turn) : Type 0 where
  pub inside : t.at ≤ size
  pub seen : t.seen ≤ t.at

-- a good answer: its results lie in it, and its count is a signed number of two bytes, or no more than the answer's bytes
pub record SummaryFits (size : ℕ) (s : Summary) : Type 0 where
  pub first : s.first ≤ s.end
  pub end : s.end ≤ size
  pub count : (n : ℕ) → 0x7FFF ≤ n → size ≤ n → s.count ≤ n

unfoldable pub AnsweredFits : ℕ → Result Summary ℕ → Type 0
AnsweredFits size (Ok s) = SummaryFits size s
AnsweredFits size (Err place) = place ≤ size

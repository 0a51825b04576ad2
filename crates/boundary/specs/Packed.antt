-- Three numbers in one, as they cross the C boundary, and how a macro takes each of them out again.
use Rattle.std.specs.Prelude.{ℕ, ◌+◌, ◌*◌, ◌^◌, ◌/◌, ◌%◌, ◌<◌}

-- a number, a count and a length: `number + 2^8 · count + 2^32 · length`
unfoldable pub packed : ℕ → ℕ → ℕ → ℕ
packed number count length = number + (2 ^ 8 * count + 2 ^ 32 * length)

-- RFM_NUMBER of include/rfm.h: result & 0xFF
unfoldable pub number_in : ℕ → ℕ
number_in sum = sum % 2 ^ 8

-- RFM_COUNT: result >> 8 & 0xFFFFFF
unfoldable pub count_in : ℕ → ℕ
count_in sum = sum / 2 ^ 8 % 2 ^ 24

-- RFM_LENGTH: result >> 32
unfoldable pub length_in : ℕ → ℕ
length_in sum = sum / 2 ^ 32

-- each of the three finds room
pub record Fits (n c l : ℕ) : Type 0 where
  pub number : n < 2 ^ 8
  pub count : c < 2 ^ 24
  pub length : l < 2 ^ 32

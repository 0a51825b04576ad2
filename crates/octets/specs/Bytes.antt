-- Runs of bytes as lists of numbers: reading, writing and comparing them. "Numbers are big-endian."
use Rattle.std.specs.Prelude.{ℕ, zero, suc, ◌+◌, ◌*◌, ◌/◌, ◌%◌, ◌<◌, Bool, true, false, ◌&&◌, ◌||◌, List, [], ◌∷◌, ◌++◌, length, get_or, take, drop, replicate, eqb}

-- the byte at a place, and 0 past the end
abbrev pub byte : List ℕ → ℕ → ℕ
byte m at = get_or m at 0

-- a run's numbers are bytes
abbrev pub AllBytes : List ℕ → Type 0
AllBytes m = (i : ℕ) → byte m i < 256

-- a number that a word of the machine holds: 64 bits
abbrev pub InWord : ℕ → Type 0
InWord n = n < 18446744073709551616

-- the n bytes from a place on, or as many of them as there are
abbrev pub part : List ℕ → ℕ → ℕ → List ℕ
part m at n = take n (drop at m)

-- the 16-bit number at a place
unfoldable pub num_at : List ℕ → ℕ → ℕ
num_at m at = byte m at * 256 + byte m (at + 1)

-- a 16-bit number as two bytes
unfoldable pub bytes2 : ℕ → List ℕ
bytes2 n = n / 256 % 256 ∷ n % 256 ∷ []

value_from : ℕ → List ℕ → ℕ
value_from n [] = n
value_from n (b ∷ bs) = value_from (n * 256 + b) bs

-- the number that a run of bytes is, of any length
unfoldable pub value : List ℕ → ℕ
unfolding value_from
value bs = value_from 0 bs

-- a number as k bytes, its last k
unfoldable pub bytes_of : ℕ → ℕ → List ℕ
bytes_of zero n = []
bytes_of (suc k) n = bytes_of k (n / 256) ++ (n % 256 ∷ [])

-- a memory after a run of bytes was written at a place
unfoldable pub overwrite : List ℕ → ℕ → List ℕ → List ℕ
overwrite m at d = take at m ++ (d ++ drop (at + length d) m)

-- n zero bytes
abbrev pub zeros : ℕ → List ℕ
zeros n = replicate n 0

-- whether every byte is zero
unfoldable pub all_zero : List ℕ → Bool
all_zero [] = true
all_zero (b ∷ bs) = eqb b 0 && all_zero bs

-- whether two runs of bytes are the same
unfoldable pub same : List ℕ → List ℕ → Bool
same [] [] = true
same [] (d ∷ ds) = false
same (b ∷ bs) [] = false
same (b ∷ bs) (d ∷ ds) = eqb b d && same bs ds

-- whether the first run begins with the second
unfoldable pub starts_with : List ℕ → List ℕ → Bool
starts_with bs [] = true
starts_with [] (d ∷ ds) = false
starts_with (b ∷ bs) (d ∷ ds) = eqb b d && starts_with bs ds

-- whether the second run stands somewhere in the first, in one piece
unfoldable pub contains : List ℕ → List ℕ → Bool
unfolding starts_with
contains [] d = starts_with [] d
contains (b ∷ bs) d = starts_with (b ∷ bs) d || contains bs d

-- A number's bytes, counted from its right end.
use Rattle.std.specs.Prelude.{ℕ, ◌-◌, List, length, ltb}
use Rattle.octets.specs.Choice.{pick}
use Rattle.octets.specs.Bytes.{byte}

-- the byte at a place counted from the right end, and 0 in front of the number
unfoldable pub from_right : List ℕ → ℕ → ℕ
from_right bs i = pick (ltb i (length bs)) (byte bs (length bs - 1 - i)) 0

-- Bytes written in upper-case hex, as the paper writes them.
use Rattle.std.specs.Prelude.{ℕ, ◌+◌, ◌-◌, ◌*◌, List, [], ◌∷◌, leb}
use Prim.Native.Char.{Char, code}
use Prim.Native.String as text
use Rattle.octets.specs.Choice.{pick}

-- the value of a digit, 0 to 9 or A to F
unfoldable pub digit : Char → ℕ
digit c = pick (leb (code c) 0x39) (code c - 0x30) (code c - 0x37)

-- the bytes of pairs of digits
unfoldable pub hex : text.String → List ℕ
hex text.[] = []
hex (text.◌∷◌ a text.[]) = []
hex (text.◌∷◌ a (text.◌∷◌ b rest)) = (digit a * 16 + digit b) ∷ hex rest

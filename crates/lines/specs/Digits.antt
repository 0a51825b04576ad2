-- Digits: names, numbers and bytes as the signs that stand for them. "hex is upper-case".
use Rattle.std.specs.Prelude.{ℕ, zero, suc, ◌+◌, ◌-◌, ◌*◌, ◌/◌, ◌%◌, Bool, true, false, not, ◌&&◌, ◌||◌, List, [], ◌∷◌, ◌++◌, length, leb, ltb, eqb, Option, Some, None, is_some, unwrap_or, option_and_then}
use Rattle.std.specs.Bool.{then_some}
use Rattle.std.specs.List.{list_all}
use Prim.Native.Char.{code}
use Prim.Native.String as text
use Rattle.octets.specs.Choice.{pick}
use Rattle.octets.specs.Bytes.{byte}

-- the bytes of a text
unfoldable pub ascii : text.String → List ℕ
ascii text.[] = []
ascii (text.◌∷◌ c rest) = code c ∷ ascii rest

-- the sign of a number below 16: 0 to 9, then A to F
unfoldable pub sign : ℕ → ℕ
sign n = pick (ltb n 10) (0x30 + n) (0x37 + n)

-- the number that a sign stands for, and none where it is no digit
unfoldable pub digit : ℕ → Option ℕ
digit b = pick (leb 0x30 b && leb b 0x39) (Some (b - 0x30)) (pick (leb 0x41 b && leb b 0x46) (Some (b - 0x37)) None)

-- the same in a base, and none where the number is not below it
unfoldable pub digit_in : ℕ → ℕ → Option ℕ
digit_in base b = option_and_then (λ d. then_some (ltb d base) d) (digit b)

-- the number of a run of digits in a base, after digits whose number is `n`
unfoldable pub number_from : ℕ → ℕ → List ℕ → Option ℕ
number_from base n [] = Some n
number_from base n (b ∷ bs) = option_and_then (λ d. number_from base (n * base + d) bs) (digit_in base b)

-- the number of a run of digits in a base, where each is one
unfoldable pub number_of : ℕ → List ℕ → Option ℕ
number_of base ds = number_from base 0 ds

-- a number of the desk's programs: decimal, with no zero in front, and at most 65,535
abbrev pub most_number : ℕ
most_number = 65535

abbrev pub is_plain : List ℕ → Bool
is_plain ds = (leb 1 (length ds) && leb (length ds) 5) && (eqb (length ds) 1 || not (eqb (byte ds 0) 0x30))

unfoldable pub plain_number : List ℕ → Option ℕ
plain_number ds = pick (is_plain ds) (option_and_then (λ n. then_some (leb n most_number) n) (number_of 10 ds)) None

-- whether each of a run is a hex digit
unfoldable pub all_hex : List ℕ → Bool
all_hex ds = list_all (λ d. is_some (digit d)) ds

-- hex digits in pairs
abbrev pub is_hex : List ℕ → Bool
is_hex ds = eqb (length ds % 2) 0 && all_hex ds

-- the same, of which there are at most so many
abbrev pub few_hex : ℕ → List ℕ → Bool
few_hex most ds = leb (length ds) most && is_hex ds

-- "0 to 16,384 hex digits, even in number"
abbrev pub most_digits : ℕ
most_digits = 16384

-- the number of a hex digit; another sign counts 16
abbrev pub hex_value : ℕ → ℕ
hex_value b = unwrap_or (digit b) 16

-- the byte of two hex digits
abbrev pub pair : ℕ → ℕ → ℕ
pair a b = hex_value a * 16 + hex_value b

-- the bytes of pairs of hex digits
unfoldable pub decoded : List ℕ → List ℕ
decoded [] = []
decoded (a ∷ []) = []
decoded (a ∷ b ∷ ds) = pair a b ∷ decoded ds

-- bytes as pairs of hex digits
unfoldable pub hex_of : List ℕ → List ℕ
hex_of [] = []
hex_of (b ∷ bs) = sign (b / 16) ∷ sign (b % 16) ∷ hex_of bs

-- a number in decimal digits, its last `k` at most
unfoldable pub decimal_in : ℕ → ℕ → List ℕ
decimal_in zero n = []
decimal_in (suc k) n = elim (ltb n 10) [ true ↦ sign n ∷ [] | false ↦ decimal_in k (n / 10) ++ (sign (n % 10) ∷ []) ]

-- a number in decimal digits, with no zero in front: `n + 1` digits are always enough
unfoldable pub decimal : ℕ → List ℕ
decimal n = decimal_in (n + 1) n

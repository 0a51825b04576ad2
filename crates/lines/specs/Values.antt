-- Values behind their names, as the programs read them.
use Rattle.std.specs.Prelude.{ℕ, ◌+◌, ◌-◌, ◌≤◌, ◌<◌, ◌≡◌, true, false, List, [], ◌∷◌, length, drop, ltb, eqb, Option, Some, None, IfSome, option_map, option_and_then}
use Rattle.std.specs.Bool.{then_some}
use Rattle.std.specs.Option.{option_map_or}
use Rattle.octets.specs.Choice.{pick}
use Rattle.octets.specs.Bytes.{part, starts_with}
use Rattle.lines.specs.Digits.{few_hex, number_of}

-- the bytes in front of the first `stop`, and all where there is none: the last line feed may be missing
unfoldable pub up_to : ℕ → List ℕ → List ℕ
up_to stop [] = []
up_to stop (b ∷ bs) = elim (eqb b stop) [ true ↦ [] | false ↦ b ∷ up_to stop bs ]

-- where a value ends that a place is in
unfoldable pub value_end : ℕ → List ℕ → ℕ → ℕ
value_end stop bs at = at + length (up_to stop (drop at bs))

-- the value at a place behind its name: where it begins and ends
unfoldable pub value_at : List ℕ → ℕ → List ℕ → ℕ → Option (ℕ × ℕ)
value_at bs at name stop =
    pick (starts_with (drop at bs) name) (Some (at + length name, value_end stop bs (at + length name))) None

-- what a value promises: it lies in the input
abbrev pub ValueFits : ℕ → Option (ℕ × ℕ) → Type 0
ValueFits size value = IfSome value (λ (from, to). (from ≤ to) × (to ≤ size))

-- a number, and the place of what follows
unfoldable pub before : ℕ → Option ℕ → Option (ℕ × ℕ)
before next number = option_map (λ n. (n, next)) number

-- the number that a value is, of a base and with `least` to `most` digits
unfoldable pub number_in : List ℕ → ℕ → ℕ → ℕ → ℕ × ℕ → Option (ℕ × ℕ)
number_in bs base least most (from, to) =
    pick (ltb (to - from) least) None
    (pick (ltb most (to - from)) None (before (to + 1) (number_of base (part bs from (to - from)))))

-- the number at a place behind its name
unfoldable pub number_at : List ℕ → ℕ → List ℕ → ℕ → ℕ → ℕ → ℕ → Option (ℕ × ℕ)
number_at bs at name stop base least most = option_and_then (number_in bs base least most) (value_at bs at name stop)

-- what a number that was read promises: it is below a bound, and what follows begins at most one past the input
abbrev pub FieldFits : ℕ → ℕ → Option (ℕ × ℕ) → Type 0
FieldFits bound size field = IfSome field (λ (n, next). (n < bound) × (next ≤ size + 1))

-- what reading a number asks: a name, three digits at most, and a base that has digits
pub record NumberAtAsks (name : List ℕ) (base most : ℕ) : Type 0 where
  pub named : 1 ≤ length name
  pub few : most ≤ 3
  pub least : 1 ≤ base
  pub based : base ≤ 16

-- the hex digits at a place behind their name, in pairs and at most so many: where they begin and end
unfoldable pub hex_in : List ℕ → ℕ → ℕ × ℕ → Option (ℕ × ℕ)
hex_in bs most (from, to) = then_some (few_hex most (part bs from (to - from))) (from, to)

unfoldable pub hex_at : List ℕ → ℕ → List ℕ → ℕ → ℕ → Option (ℕ × ℕ)
hex_at bs at name stop most = option_and_then (hex_in bs most) (value_at bs at name stop)

-- what such digits promise: they lie in the input, and are hex digits in pairs, at most so many
pub record HexLies (bs : List ℕ) (most from to : ℕ) : Type 0 where
  pub order : from ≤ to
  pub inside : to ≤ length bs
  pub digits : few_hex most (part bs from (to - from)) ≡ true

abbrev pub HexFits : List ℕ → ℕ → Option (ℕ × ℕ) → Type 0
HexFits bs most value = IfSome value (λ (from, to). HexLies bs most from to)

-- how the reading goes on after a number or a value, and `bad` where none was read
unfoldable pub then : {A : Type 0} → A → Option (ℕ × ℕ) → (ℕ → ℕ → A) → A
then bad read f = option_map_or (λ (a, b). f a b) read bad

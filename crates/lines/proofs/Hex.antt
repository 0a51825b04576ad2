-- Pairs of hex digits and the bytes that they stand for, read and written one by one.
-- For each loop over digits or bytes there is one law for a round and one for the end. What is left from a place on is what stands
-- there and what is left from the next place on (`hex-next`, `bytes_next`, `signs_next`). For the loops that write, what is left,
-- written after what has been written, is the whole: a round stores what stands at the place, which by `write-first` changes nothing
-- of that (`bytes_goes_on`, `signs_goes_on`), and at the end nothing is left to write (`bytes_end`, `signs_end`). Assumes nothing.
use mathlib.Core.Path.{◌≡◌, refl, sym, ap, ◌∙◌}
use mathlib.Core.Bool.{true, ◌&&◌}
use mathlib.Core.List.{List, [], ◌∷◌}
use Prim.Native.Nat.{ℕ, ◌+◌, ◌-◌, ◌*◌, ◌/◌, ◌%◌, ◌≤◌, ◌<◌}
use native.Mathlib.Nat.{le_refl}
use native.Mathlib.Numerals.{add-one}
use native.Mathlib.Omega.{arith}
use lib.Dec.{leb, eqb}
use lib.ListN.{length, set, drop, length-drop, length-set, drop_of_length-le}
use lib.Seq.{drop-cons, take_all}
use borrow.Author.Tests.{leb-true}
use Rattle.std.specs.Prelude.{IsSome, is_some}
use Rattle.octets.specs.Bytes.{byte, part, overwrite}
use Rattle.octets.proofs.Writes.{write-none}
use Rattle.octets.proofs.Picks.{and_left, and_right}
use Rattle.lines.specs.Digits.{sign, digit, all_hex, few_hex, pair, decoded, hex_of}
use Rattle.lines.specs.Values.{HexLies}
use Rattle.lines.proofs.Written.{write-first}

-- ---- digits

-- what is left from place i on
module _ (ds : List ℕ) (i : ℕ) (inside : i < length ds) where
  hex-next : all_hex (drop i ds) ≡ (is_some (digit (byte ds i)) && all_hex (drop (i + 1) ds))
  unfolding all_hex
  hex-next = rw (add-one, drop-cons ds i 0 inside)

  pub hex_here : all_hex (drop i ds) ≡ true → IsSome (digit (byte ds i))
  hex_here hex = and_left _ _ (sym hex-next ∙ hex)

  pub hex_rest : all_hex (drop i ds) ≡ true → all_hex (drop (i + 1) ds) ≡ true
  hex_rest hex = and_right (is_some (digit (byte ds i))) _ (sym hex-next ∙ hex)

-- what is left at the end are no digits
pub no_digits : (ds : List ℕ) → all_hex (drop (length ds) ds) ≡ true
unfolding all_hex
no_digits ds = rw (drop_of_length-le ds (le_refl (length ds)))

-- at most so many hex digits in pairs
module _ (most : ℕ) (ds : List ℕ) (few : few_hex most ds ≡ true) where
  pub digits_few : length ds ≤ most
  digits_few = leb-true (length ds) most (and_left _ _ few)

  pub digits_hex : all_hex ds ≡ true
  digits_hex = and_right (eqb (length ds % 2) 0) _ (and_right (leb (length ds) most) _ few)

-- ---- the bytes of digits

pub bytes_length : (ds : List ℕ) → length (decoded ds) ≡ length ds / 2
unfolding decoded
bytes_length [] = refl
bytes_length (a ∷ []) = refl
bytes_length (a ∷ b ∷ ds) = omega (arith, bytes_length ds)

-- the i-th pair, and what is left behind it
module _ (ds : List ℕ) (i : ℕ) where
  pair-next : 2 * (i + 1) ≡ 2 * i + 1 + 1
  pair-next = omega arith

  pub pair_rest : 2 * i + 1 < length ds → all_hex (drop (2 * i) ds) ≡ true → all_hex (drop (2 * (i + 1)) ds) ≡ true
  pair_rest h hex = rw pair-next (hex_rest ds (2 * i + 1) h (hex_rest ds (2 * i) (omega arith) hex))

  bytes_next : 2 * i + 1 < length ds → decoded (drop (2 * i) ds) ≡ pair (byte ds (2 * i)) (byte ds (2 * i + 1)) ∷ decoded (drop (2 * (i + 1)) ds)
  unfolding decoded
  bytes_next h =
      let l : 2 * i < length ds = omega arith in
      rw (pair-next, drop-cons ds (2 * i) 0 l, ← (add-one (2 * i)), drop-cons ds (2 * i + 1) 0 h, ← (add-one (2 * i + 1)))

  rest-length : length (decoded (drop (2 * i) ds)) ≡ (length ds - 2 * i) / 2
  rest-length = rw (bytes_length, length-drop)

-- the bytes of what is left from the i-th pair on, written from the place i on
module _ (ds m : List ℕ) (i : ℕ) where
  pub bytes_end : length ds ≤ 2 * i + 1 → overwrite m i (decoded (drop (2 * i) ds)) ≡ m
  bytes_end h = ap (overwrite m i) (sym (take_all 0 (decoded (drop (2 * i) ds)) (omega (arith, rest-length ds i)))) ∙ write-none m i

  pub bytes_goes_on : {v : ℕ} → v ≡ pair (byte ds (2 * i)) (byte ds (2 * i + 1)) → 2 * i + 1 < length ds → length ds ≤ 2 * length m → overwrite (set m i v) (i + 1) (decoded (drop (2 * (i + 1)) ds)) ≡ overwrite m i (decoded (drop (2 * i) ds))
  bytes_goes_on {v} e h fits =
      write-first m i v (decoded (drop (2 * (i + 1)) ds)) (omega (arith, rest-length ds (i + 1)))
      ∙ ap (overwrite m i) ((λ j. e j ∷ decoded (drop (2 * (i + 1)) ds)) ∙ sym (bytes_next ds i h))

-- ---- the digits of bytes

pub hex_length : (bs : List ℕ) → length (hex_of bs) ≡ 2 * length bs
unfolding hex_of
hex_length [] = refl
hex_length (b ∷ bs) = omega (arith, hex_length bs)

-- the digits of what is left from the i-th byte on, written behind those of the first i bytes
module _ (bs m : List ℕ) (at i : ℕ) where
  pub signs_end : length bs ≤ i → overwrite m (at + 2 * i) (hex_of (drop i bs)) ≡ m
  unfolding hex_of
  signs_end h = rw (drop_of_length-le bs h) (write-none m (at + 2 * i))

  signs_next : i < length bs → hex_of (drop i bs) ≡ sign (byte bs i / 16) ∷ sign (byte bs i % 16) ∷ hex_of (drop (i + 1) bs)
  unfolding hex_of
  signs_next h = rw (add-one, drop-cons bs i 0 h)

  pub signs_goes_on : {u v : ℕ} → u ≡ sign (byte bs i / 16) → v ≡ sign (byte bs i % 16) → i < length bs → at + 2 * length bs ≤ length m → overwrite (set (set m (at + 2 * i) u) (at + 2 * i + 1) v) (at + 2 * (i + 1)) (hex_of (drop (i + 1) bs)) ≡ overwrite m (at + 2 * i) (hex_of (drop i bs))
  signs_goes_on {u} {v} e f h fits =
      let next : at + 2 * (i + 1) ≡ at + 2 * i + 1 + 1 = omega arith in
      let rest : length (hex_of (drop (i + 1) bs)) ≡ 2 * (length bs - (i + 1)) = rw (hex_length, length-drop) in
      ap (λ (p : ℕ). overwrite (set (set m (at + 2 * i) u) (at + 2 * i + 1) v) p (hex_of (drop (i + 1) bs))) next
      ∙ write-first (set m (at + 2 * i) u) (at + 2 * i + 1) v (hex_of (drop (i + 1) bs)) (rw length-set (omega arith))
      ∙ write-first m (at + 2 * i) u (v ∷ hex_of (drop (i + 1) bs)) (omega arith)
      ∙ ap (overwrite m (at + 2 * i)) ((λ j. e j ∷ f j ∷ hex_of (drop (i + 1) bs)) ∙ sym (signs_next h))

-- at most so many hex digits in pairs stand for half as many bytes
pub digits_bytes : (most : ℕ) (ds : List ℕ) → few_hex most ds ≡ true → 2 * length (decoded ds) ≤ most
digits_bytes most ds few = omega (arith, bytes_length ds, digits_few most ds few)

-- digits that were found
module _ {bs : List ℕ} {most from to : ℕ} (lies : HexLies bs most from to) where
  pub found_few : length (part bs from (to - from)) ≤ most
  found_few = digits_few most (part bs from (to - from)) lies.digits

  pub found_hex : all_hex (part bs from (to - from)) ≡ true
  found_hex = digits_hex most (part bs from (to - from)) lies.digits

  pub found_bytes : 2 * length (decoded (part bs from (to - from))) ≤ most
  found_bytes = digits_bytes most (part bs from (to - from)) lies.digits

-- the laws by which the loop of `decode` is proved
pub ruleset pairs = (hex_here, hex_rest, pair_rest, bytes_end, bytes_length)

-- What was written is read back: bytes in hex digits, a number in decimal digits, and a value in its line.
-- A sign is read as the number that it was written for (`sign_read`). So pairs of signs give the bytes again (`hex-read`), and decimal
-- digits the number, whatever stands behind them (`digits_read`). A zero stands in front of the digits of 0 alone (`first-digit`), so a
-- number is also read where a zero in front is refused (`decimal-plain-read`). No sign is below 0x30, and line feed, space and comma are,
-- so digits are without them. A value without the byte that ends it is found again between its name and that byte, or the end of the text
-- where that byte is missing (`line_read`, `last_line_read`). Assumes nothing.
use mathlib.Core.Path.{◌≡◌, refl, ap, ◌∙◌}
use mathlib.Core.Bool.{Bool, true, false, not, ◌||◌, or-true}
use mathlib.Core.List.{List, [], ◌∷◌, ◌++◌, append_assoc, append-nil, nil≢cons, tail-eq_of_cons-eq}
use Prim.Native.Nat.{ℕ, zero, suc, ◌+◌, ◌-◌, ◌*◌, ◌/◌, ◌%◌, ◌≤◌, ◌<◌}
use native.Mathlib.Nat.{zero-add}
use native.Mathlib.Omega.{arith}
use lib.Dec.{ltb, eqb}
use lib.ListN.{length, length-append, get_or-append}
use lib.Seq.{take-append_seam, drop-append_seam}
use borrow.Author.Tests.{lt-ltb, le-leb, eq-eqb, ne_eqb, eqb-true, ltb-true, ltb-false}
use Rattle.octets.specs.Choice.{pick, all_below}
use Rattle.octets.specs.Bytes.{byte, part, AllBytes, starts_with}
use Rattle.octets.proofs.Picks.{pick_true, and_both, all_at, on_pick, on_test}
use Rattle.octets.proofs.Writes.{part-lent}
use Rattle.std.specs.Prelude.{Option, Some, None, is_some, unwrap_or}
use Rattle.lines.specs.Digits.{sign, digit, digit_in, hex_value, number_from, number_of, most_number, is_plain, plain_number, all_hex, is_hex, pair, decoded, hex_of, decimal_in, decimal}
use Rattle.lines.specs.Named.{named}
use Rattle.lines.specs.Values.{up_to, value_end, value_at}
use Rattle.lines.proofs.Hex.{hex_length}
use Rattle.lines.proofs.Decimal.{digits_most}

-- ---- signs

-- by computation, for each of the sixteen
signs : all_below 16 (λ (n : ℕ). eqb (hex_value (sign n)) n) ≡ true
unfolding all_below digit sign pick
signs = refl

value_read_lem : (n : ℕ) → n < 16 → hex_value (sign n) ≡ n
value_read_lem n h = eqb-true (hex_value (sign n)) n (all_at 16 n _ signs h)

known : (n : ℕ) (o : Option ℕ) → n < 16 → unwrap_or o 16 ≡ n → o ≡ Some n
known n None h e = absurd (omega arith)
known n (Some d) h e = ap Some e

sign_read : (n : ℕ) → n < 16 → digit (sign n) ≡ Some n
sign_read n h = known n (digit (sign n)) h (value_read_lem n h)

hex-sign : (n : ℕ) → n < 16 → is_some (digit (sign n)) ≡ true
hex-sign n h = rw (sign_read n h)

sign-least : (n : ℕ) → 0x30 + n ≤ sign n
unfolding sign
sign-least n = on_pick (λ (s : ℕ). 0x30 + n ≤ s) (ltb n 10) _ _ (λ _. omega arith) (λ _. omega arith)

-- ---- bytes in hex digits

pub hex-read : (bs : List ℕ) → AllBytes bs → decoded (hex_of bs) ≡ bs
unfolding decoded hex_of
hex-read [] h = refl
hex-read (b ∷ bs) h =
    let small : b < 256 = h 0 in
    let same : pair (sign (b / 16)) (sign (b % 16)) ≡ b = omega (arith, value_read_lem (b / 16) (omega arith), value_read_lem (b % 16) (omega arith)) in
    λ i. same i ∷ hex-read bs (λ k. h (suc k)) i

hex_digits : (bs : List ℕ) → AllBytes bs → all_hex (hex_of bs) ≡ true
unfolding all_hex hex_of
hex_digits [] h = refl
hex_digits (b ∷ bs) h =
    let small : b < 256 = h 0 in
    and_both _ _ (hex-sign (b / 16) (omega arith)) (and_both _ _ (hex-sign (b % 16) (omega arith)) (hex_digits bs (λ k. h (suc k))))

pub hex-is_hex : (bs : List ℕ) → AllBytes bs → is_hex (hex_of bs) ≡ true
hex-is_hex bs h =
    let even : length (hex_of bs) % 2 ≡ 0 = omega (arith, hex_length bs) in
    and_both _ _ (eq-eqb (length (hex_of bs) % 2) 0 even) (hex_digits bs h)

-- ---- a number in decimal digits

digit-read : (m n : ℕ) (ds : List ℕ) → n < 10 → number_from 10 m (sign n ∷ ds) ≡ number_from 10 (m * 10 + n) ds
unfolding number_from digit_in
digit-read m n ds h = rw (sign_read n (omega arith), lt-ltb n 10 h)

-- digits in front of others: the number, and what the others make of it
digits_read : (k n : ℕ) (ds : List ℕ) → n < k → number_from 10 0 (decimal_in k n ++ ds) ≡ number_from 10 n ds
unfolding decimal_in
digits_read zero n ds h = absurd (omega arith)
digits_read (suc k) n ds h =
    on_test (λ (l : List ℕ). number_from 10 0 (l ++ ds) ≡ number_from 10 n ds) (ltb n 10) (sign n ∷ []) (decimal_in k (n / 10) ++ (sign (n % 10) ∷ []))
    (λ few. rw zero-add at (digit-read 0 n ds (ltb-true n 10 few)))
    (λ many.
    let large : 10 ≤ n = ltb-false n 10 many in
    let whole : n / 10 * 10 + n % 10 ≡ n = omega arith in
    rw append_assoc (digits_read k (n / 10) (sign (n % 10) ∷ ds) (omega arith) ∙ digit-read (n / 10) (n % 10) ds (omega arith) ∙ rw whole))

pub decimal-read : (n : ℕ) → number_of 10 (decimal n) ≡ Some n
unfolding number_of decimal number_from
decimal-read n = rw append-nil at (digits_read (n + 1) n [] (omega arith))

digits_some : (k n : ℕ) → n < k → 1 ≤ length (decimal_in k n)
unfolding decimal_in
digits_some zero n h = absurd (omega arith)
digits_some (suc k) n h = on_test (λ (l : List ℕ). 1 ≤ length l) (ltb n 10) _ _ (λ few. omega arith) (λ many. simp length-append (omega arith))

first-digit : (k n : ℕ) → 1 ≤ n → n < k → 0x31 ≤ byte (decimal_in k n) 0
unfolding decimal_in
first-digit zero n h g = absurd (omega arith)
first-digit (suc k) n h g =
    on_test (λ (l : List ℕ). 0x31 ≤ byte l 0) (ltb n 10) _ _ (λ few. omega (arith, sign-least n))
    (λ many.
    let large : 10 ≤ n = ltb-false n 10 many in
    rw (get_or-append (decimal_in k (n / 10)) (sign (n % 10) ∷ []) 0 0 (digits_some k (n / 10) (omega arith))) (first-digit k (n / 10) (omega arith) (omega arith)))

-- a zero in front, of 0 alone
abbrev FrontPlain : List ℕ → Type 0
FrontPlain ds = (eqb (length ds) 1 || not (eqb (byte ds 0) 0x30)) ≡ true

zero_front : FrontPlain (decimal 0)
unfolding decimal decimal_in sign pick
zero_front = refl

other_front : (ds : List ℕ) → 0x31 ≤ byte ds 0 → FrontPlain ds
other_front ds h = rw (ne_eqb (byte ds 0) 0x30 (λ e. omega arith)) (or-true (eqb (length ds) 1))

decimal_front : (n : ℕ) → FrontPlain (decimal n)
unfolding decimal
decimal_front zero = zero_front
decimal_front (suc n) = other_front (decimal (suc n)) (first-digit (suc n + 1) (suc n) (omega arith) (omega arith))

decimal-plain : (n : ℕ) → n ≤ most_number → is_plain (decimal n) ≡ true
unfolding decimal
decimal-plain n h =
    let some : 1 ≤ length (decimal n) = digits_some (n + 1) n (omega arith) in
    let few : length (decimal n) ≤ 5 = digits_most 4 (n + 1) n (omega arith) in
    and_both _ _ (and_both _ _ (le-leb 1 (length (decimal n)) some) (le-leb (length (decimal n)) 5 few)) (decimal_front n)

pub decimal-plain-read : (n : ℕ) → n ≤ most_number → plain_number (decimal n) ≡ Some n
unfolding plain_number
decimal-plain-read n h = pick_true _ _ _ (decimal-plain n h) ∙ rw (decimal-read n, le-leb n most_number h)

-- ---- a value in its line

-- a run that does not hold the byte that ends a value: what stands in front of that byte is all
abbrev pub Without : ℕ → List ℕ → Type 0
Without stop bs = up_to stop bs ≡ bs

-- what stands behind a value: nothing, or first the byte that ends it
abbrev pub Ends : ℕ → List ℕ → Type 0
Ends stop behind = up_to stop behind ≡ []

pub text_ends : (stop : ℕ) → Ends stop []
unfolding up_to
text_ends stop = refl

pub stop_ends : (stop : ℕ) (rest : List ℕ) → Ends stop (stop ∷ rest)
unfolding up_to
stop_ends stop rest = rw (eq-eqb stop stop refl, up_to)

goes_through : (t : Bool) (b : ℕ) {u v bs w : List ℕ} → (u ≡ bs → v ≡ w) → elim t [ true ↦ [] | false ↦ b ∷ u ] ≡ b ∷ bs → elim t [ true ↦ [] | false ↦ b ∷ v ] ≡ b ∷ w
goes_through true b f e = absurd (nil≢cons e)
goes_through false b f e = ap (λ (l : List ℕ). b ∷ l) (f (tail-eq_of_cons-eq e))

up_to-behind : (stop : ℕ) (bs rest : List ℕ) → Without stop bs → up_to stop (bs ++ rest) ≡ bs ++ up_to stop rest
unfolding up_to
up_to-behind stop [] rest e = refl
up_to-behind stop (b ∷ bs) rest e = goes_through (eqb b stop) b (up_to-behind stop bs rest) e

pub both_without : (stop : ℕ) (a b : List ℕ) → Without stop a → Without stop b → Without stop (a ++ b)
both_without stop a b e f = up_to-behind stop a b e ∙ ap (λ (l : List ℕ). a ++ l) f

-- digits are without a line feed, a space and a comma
module _ (stop : ℕ) (small : stop < 0x30) where
  sign_without : (n : ℕ) (ds : List ℕ) → Without stop ds → Without stop (sign n ∷ ds)
  unfolding up_to
  sign_without n ds e = rw (ne_eqb (sign n) stop (λ same. omega (arith, sign-least n)), up_to, e)

  pub hex_without : (bs : List ℕ) → Without stop (hex_of bs)
  unfolding hex_of
  hex_without [] = text_ends stop
  hex_without (b ∷ bs) = sign_without (b / 16) _ (sign_without (b % 16) _ (hex_without bs))

  digits_without : (k n : ℕ) → Without stop (decimal_in k n)
  unfolding decimal_in
  digits_without zero n = text_ends stop
  digits_without (suc k) n =
      on_test (Without stop) (ltb n 10) _ _ (λ few. sign_without n [] (text_ends stop))
      (λ many. both_without stop (decimal_in k (n / 10)) _ (digits_without k (n / 10)) (sign_without (n % 10) [] (text_ends stop)))

  pub decimal_without : (n : ℕ) → Without stop (decimal n)
  unfolding decimal
  decimal_without n = digits_without (n + 1) n

-- a value at a place of a text: where it ends, and the part that it is
module _ (pre value behind : List ℕ) where
  pub end_read : (stop : ℕ) → Without stop value → Ends stop behind → value_end stop (pre ++ (value ++ behind)) (length pre) ≡ length pre + length value
  unfolding value_end
  end_read stop free ends = rw (drop-append_seam pre (value ++ behind), up_to-behind stop value behind free, ends, append-nil)

  pub part-read : part (pre ++ (value ++ behind)) (length pre) (length pre + length value - length pre) ≡ value
  part-read = part-lent (pre ++ (value ++ behind)) (length pre) (length value) ∙ rw (drop-append_seam, take-append_seam)

starts-named : (name behind : List ℕ) → starts_with (name ++ behind) name ≡ true
unfolding starts_with
starts-named [] behind = refl
starts-named (b ∷ name) behind = and_both _ _ (eq-eqb b b refl) (starts-named name behind)

-- a value is found at a place of a text, behind its name, and the part of the text there is the value
pub record ReadBack (text : List ℕ) (at : ℕ) (name value : List ℕ) (stop : ℕ) : Type 0 where
  pub found : value_at text at name stop ≡ Some (at + length name, at + length name + length value)
  pub there : part text (at + length name) (at + length name + length value - (at + length name)) ≡ value

module _ (stop : ℕ) (pre name value : List ℕ) (free : Without stop value) where
  value_read : (behind : List ℕ) → Ends stop behind → ReadBack (pre ++ (name ++ (value ++ behind))) (length pre) name value stop
  unfolding value_at
  value_read behind ends =
      record {
        found =
            pick_true _ _ _ (rw drop-append_seam (starts-named name (value ++ behind)))
            ∙ ap (λ (e : ℕ). Some (length pre + length name, e)) (rw (append_assoc, length-append) at (end_read (pre ++ name) value behind stop free ends));
        there = rw (append_assoc, length-append) at (part-read (pre ++ name) value behind);
      }

  -- with the byte that ends it, whatever stands behind, and at the end of a text without that byte
  pub line_read : (rest : List ℕ) → ReadBack (pre ++ (named name value stop ++ rest)) (length pre) name value stop
  unfolding named
  line_read rest = rw (append_assoc name, append_assoc value) (value_read (stop ∷ rest) (stop_ends stop rest))

  pub last_line_read : ReadBack (pre ++ (name ++ value)) (length pre) name value stop
  last_line_read = rw (append-nil value) at (value_read [] (text_ends stop))

-- A sum digit by digit from the right: the numbers that the last bytes are, the carry, and the bytes written so far.
-- The loop of `add` keeps `Adding`: after i digits `out` holds, at the end of the record's length, the last i bytes of the sum of
-- what the last i bytes of both numbers are, and the carry is that sum divided by 256 ^ i. The next digits x and y add
-- (x + y) * 256 ^ i to it, so the next byte and the next carry are remainder and quotient of x + y + carry by 256 (`bytes_more`,
-- `carry_more`), and the byte is stored in front of those written (`write_front_byte`). After as many digits as the first number
-- has it is the whole sum (`ends`). Assumes nothing.
use mathlib.Core.Path.{◌≡◌, refl, sym, ap, ◌∙◌}
use mathlib.Core.List.{List, [], ◌∷◌, ◌++◌}
use Prim.Native.Nat.{ℕ, zero, suc, ◌+◌, ◌-◌, ◌*◌, ◌/◌, ◌%◌, ◌^◌, ◌≤◌, ◌<◌}
use native.Mathlib.Nat.{add-mul, mul_assoc, zero-mul, zero-add, pow-suc, pow-succ', div-one, one-le-pow, div-div-eq-div-mul, mul-add-div_right, mul-add-mod_self_right}
use native.Mathlib.Numerals.{add-one}
use native.Mathlib.Decide.{dec_lt}
use native.Mathlib.Omega.{arith}
use lib.ListN.{length, set, drop, length-drop, length-set}
use lib.Seq.{drop-length, drop-cons}
use borrow.Author.Tests.{lt-ltb, le-ltb}
use Rattle.octets.specs.Bytes.{byte, value, bytes_of, overwrite}
use Rattle.octets.proofs.Picks.{pick_true, pick-false}
use Rattle.octets.proofs.Writes.{write-none, write-length, write_two, write_swap, set-write}
use Rattle.octets.proofs.Numbers.{value-head, bytes_of-length}
use Rattle.plan.specs.Sums.{from_right}

-- the number that the last i bytes are
abbrev pub lowest : List ℕ → ℕ → ℕ
lowest bs i = value (drop (length bs - i) bs)

lowest_none : (bs : List ℕ) → lowest bs 0 ≡ 0
unfolding value
lowest_none bs =
    let e : length bs - 0 ≡ length bs = omega arith in
    rw (e, drop-length bs)

lowest_all : (bs : List ℕ) (i : ℕ) → length bs ≤ i → lowest bs i ≡ value bs
lowest_all bs i h =
    let e : length bs - i ≡ 0 = omega arith in
    rw e

first-digit : (bs : List ℕ) (p i : ℕ) → suc p + i ≡ length bs → value (drop p bs) ≡ byte bs p * 256 ^ i + value (drop (suc p) bs)
first-digit bs p i e =
    let l : length (drop (suc p) bs) ≡ i = simp length-drop (omega arith) in
    ap value (drop-cons bs p 0 (omega arith)) ∙ value-head (byte bs p) (drop (suc p) bs) ∙ ap (λ (k : ℕ). byte bs p * 256 ^ k + value (drop (suc p) bs)) l

lowest_more : (bs : List ℕ) (i : ℕ) → lowest bs (i + 1) ≡ from_right bs i * 256 ^ i + lowest bs i
unfolding from_right
lowest_more bs i =
    elim (dec_lt i (length bs)) [
      | yes h ↦
          let p : ℕ = length bs - (i + 1) in
          let at : length bs - 1 - i ≡ p = omega arith in
          let rest : length bs - i ≡ suc p = omega arith in
          rw (pick_true _ (byte bs (length bs - 1 - i)) 0 (lt-ltb i (length bs) h), at, rest) (first-digit bs p i (omega arith))
      | no h ↦
          let all : length bs - (i + 1) ≡ 0 = omega arith in
          let rest : length bs - i ≡ 0 = omega arith in
          rw (pick-false _ (byte bs (length bs - 1 - i)) 0 (le-ltb i (length bs) (omega arith)), all, rest, zero-mul, zero-add)
    ]

-- the sum of the last bytes of two numbers
abbrev pub sums : List ℕ → List ℕ → ℕ → ℕ
sums a b i = lowest a i + lowest b i

sums_more : (a b : List ℕ) (i x y : ℕ) → x ≡ from_right a i → y ≡ from_right b i → sums a b (i + 1) ≡ (x + y) * 256 ^ i + sums a b i
sums_more a b i x y p q = rw (lowest_more a i, lowest_more b i, ← p, ← q, add-mul) (omega arith)

-- a digit in front: what is carried, and the bytes
carry_more : (x s i : ℕ) → (x * 256 ^ i + s) / 256 ^ (i + 1) ≡ (x + s / 256 ^ i) / 256
carry_more x s i = rw (add-one, pow-suc, ← div-div-eq-div-mul, mul-add-div_right (one-le-pow i 256 (omega arith)) x s)

bytes_low : (k x s : ℕ) → bytes_of k (x * 256 ^ k + s) ≡ bytes_of k s
unfolding bytes_of
bytes_low zero x s = refl
bytes_low (suc k) x s =
    rw (pow-suc 256 k, ← (mul_assoc x (256 ^ k) 256), mul-add-div_right {m = 256} (omega arith) (x * 256 ^ k) s, mul-add-mod_self_right (x * 256 ^ k) 256 s, bytes_low k x (s / 256))

bytes_front : (k n : ℕ) → bytes_of (suc k) n ≡ n / 256 ^ k % 256 ∷ bytes_of k n
unfolding bytes_of
bytes_front zero n = rw div-one
bytes_front (suc k) n =
    ap (λ (l : List ℕ). l ++ (n % 256 ∷ [])) (bytes_front k (n / 256))
    ∙ ap (λ (q : ℕ). q % 256 ∷ (bytes_of k (n / 256) ++ (n % 256 ∷ []))) (div-div-eq-div-mul n 256 (256 ^ k) ∙ ap (λ (p : ℕ). n / p) (sym (pow-succ' 256 k)))

bytes_more : (x s i : ℕ) → bytes_of (i + 1) (x * 256 ^ i + s) ≡ (x + s / 256 ^ i) % 256 ∷ bytes_of i s
bytes_more x s i = rw (add-one, bytes_front, mul-add-div_right (one-le-pow i 256 (omega arith)) x s, bytes_low)

-- one byte in front of a write
write_front_byte : (m : List ℕ) (p b : ℕ) (d : List ℕ) → p + 1 + length d ≤ length m → set (overwrite m (p + 1) d) p b ≡ overwrite m p (b ∷ d)
write_front_byte m p b d fits =
    let l : length (overwrite m (p + 1) d) ≡ length m = write-length m (p + 1) d fits in
    set-write (overwrite m (p + 1) d) p b (omega arith) ∙ sym (write_swap m p (p + 1) (b ∷ []) d (omega arith) (omega arith)) ∙ sym (write_two m p (b ∷ []) d (omega arith))

-- a sum under way: after i digits the sum's last i bytes are written, and the carry is what is left of it
pub record Adding (first added out₀ out : List ℕ) (carry i : ℕ) : Type 0 where
  pub within : i ≤ length first
  pub small : carry ≤ 1
  pub same : length out ≡ length out₀
  pub carried : carry ≡ sums first added i / 256 ^ i
  pub written : out ≡ overwrite out₀ (length first - i) (bytes_of i (sums first added i))

module _ (first added out₀ : List ℕ) where
  pub begins : Adding first added out₀ out₀ 0 0
  unfolding bytes_of
  begins =
      record {
        within = omega arith;
        small = omega arith;
        same = refl;
        carried = rw (lowest_none first, lowest_none added);
        written = sym (write-none out₀ (length first - 0));
      }

  module _ (fits : length first ≤ length out₀) (out : List ℕ) (carry i : ℕ) (g : Adding first added out₀ out carry i) where
    pub goes_on_lem : (x y : ℕ) → i < length first → x ≡ from_right first i → y ≡ from_right added i → x < 256 → y < 256 → Adding first added out₀ (set out (length first - 1 - i) ((x + y + carry) % 256)) ((x + y + carry) / 256) (i + 1)
    goes_on_lem x y h p q below-x below-y =
        let at : length first - (i + 1) ≡ length first - 1 - i = omega arith in
        let behind : length first - i ≡ length first - 1 - i + 1 = omega arith in
        let long = bytes_of-length i (sums first added i) in
        record {
          within = omega arith;
          small = omega arith;
          same = length-set out _ _ ∙ g.same;
          carried = rw (sums_more first added i x y p q, carry_more, ← g.carried);
          written =
              rw (sums_more first added i x y p q, bytes_more, ← g.carried, at)
              (ap (λ (l : List ℕ). set l (length first - 1 - i) ((x + y + carry) % 256)) (g.written ∙ ap (λ (k : ℕ). overwrite out₀ k (bytes_of i (sums first added i))) behind)
              ∙ write_front_byte out₀ (length first - 1 - i) ((x + y + carry) % 256) (bytes_of i (sums first added i)) (omega arith));
        }

    pub ends : length first ≤ i → length added ≤ length first → (carry ≡ (value first + value added) / 256 ^ length first) × (out ≡ overwrite out₀ 0 (bytes_of (length first) (value first + value added)))
    ends h short =
        let e : i ≡ length first = omega arith in
        let none : length first - i ≡ 0 = omega arith in
        let all : sums first added i ≡ value first + value added = rw (lowest_all first i h, lowest_all added i (omega arith)) in
        (g.carried ∙ (λ j. all j / 256 ^ e j), g.written ∙ (λ j. overwrite out₀ (none j) (bytes_of (e j) (all j))))

-- A number in decimal digits: how many they are at most, and how they are put at a place, the last digit behind the others. Assumes nothing.
use mathlib.Core.Path.{◌≡◌, refl, ◌∙◌}
use mathlib.Core.List.{List}
use Prim.Native.Nat.{ℕ, zero, suc, ◌+◌, ◌/◌, ◌%◌, ◌^◌, ◌≤◌, ◌<◌}
use native.Mathlib.Omega.{arith}
use lib.Dec.{ltb}
use lib.ListN.{length, set, length-append}
use borrow.Author.Tests.{lt-ltb, le-ltb}
use Rattle.octets.specs.Bytes.{overwrite}
use Rattle.octets.proofs.Writes.{write_more, set-write}
use Rattle.octets.proofs.Picks.{on_test}
use Rattle.lines.specs.Digits.{sign, decimal_in}

-- a number below 10 ^ (j + 1) has j + 1 digits at most
pub digits_most : (j k n : ℕ) → n < 10 ^ suc j → length (decimal_in k n) ≤ suc j
unfolding decimal_in
digits_most j zero n h = omega arith
digits_most zero (suc k) n h = rw (lt-ltb n 10 (omega arith), decimal_in) (omega arith)
digits_most (suc j) (suc k) n h =
    on_test (λ (l : List ℕ). length l ≤ suc (suc j)) (ltb n 10) _ _ (λ few. omega arith)
    (λ many. simp length-append (omega (arith, digits_most j k (n / 10) (omega arith))))

-- a number was put at a place of a memory m: the memory is then m', and end the place behind the number
abbrev PutDecimal : List ℕ → ℕ → ℕ → List ℕ → ℕ → Type 0
PutDecimal m at n m' end = (k : ℕ) → n < k → (m' ≡ overwrite m at (decimal_in k n)) × (end ≡ at + length (decimal_in k n))

module _ (m : List ℕ) (at n : ℕ) where
  pub place-most : (j : ℕ) {m' : List ℕ} {end : ℕ} → n < 10 ^ suc j → PutDecimal m at n m' end → end ≤ at + suc j
  place-most j small p = omega (arith, (p (n + 1) (omega arith)).1, digits_most j (n + 1) n small)

  -- one digit
  pub put_one : (u : ℕ) → at + 20 ≤ length m → u ≡ sign n → n < 10 → PutDecimal m at n (set m at u) (at + 1)
  unfolding decimal_in
  put_one u fits e few zero h = absurd (omega arith)
  put_one u fits e few (suc k) h = rw (lt-ltb n 10 few, decimal_in, e) (set-write m at (sign n) (omega arith), omega arith)

  -- the last digit behind the others
  pub put_more : (u : ℕ) {m₁ : List ℕ} {end : ℕ} → at + 20 ≤ length m → u ≡ sign (n % 10) → 10 ≤ n → n < 10 ^ 20 → PutDecimal m at (n / 10) m₁ end → PutDecimal m at n (set m₁ end u) (end + 1)
  unfolding decimal_in
  put_more u fits e many small front zero h = absurd (omega arith)
  put_more u fits e many small front (suc k) h =
      let f = front k (omega arith) in
      let l = digits_most 18 k (n / 10) (omega arith) in
      rw (le-ltb n 10 many, decimal_in)
      ((λ j. set (f.0 j) (f.1 j) (e j)) ∙ write_more m at (decimal_in k (n / 10)) (length (decimal_in k (n / 10))) (sign (n % 10)) refl (omega arith), simp length-append (omega (arith, f.1)))

-- What a sign stands for at most, and the number of a run of digits, sign by sign. Assumes nothing.
use mathlib.Core.Path.{◌≡◌}
use mathlib.Core.Bool.{◌&&◌}
use mathlib.Core.List.{List}
use Prim.Native.Nat.{ℕ, suc, ◌+◌, ◌*◌, ◌^◌, ◌≤◌, ◌<◌}
use native.Mathlib.Nat.{mul-le-mul_right, pow-suc, pow-le-pow_left, pow-le-pow_right, le_trans, suc-mul}
use native.Mathlib.Numerals.{add-one}
use native.Mathlib.Omega.{arith}
use lib.Dec.{leb}
use lib.ListN.{length, drop, drop_of_length-le}
use lib.Seq.{drop-cons}
use borrow.Author.Tests.{leb-true}
use Rattle.octets.specs.Bytes.{byte}
use Rattle.octets.proofs.Picks.{on_pick, and_right}
use Rattle.std.specs.Prelude.{Option, Some, IfSome, option_and_then}
use Rattle.std.specs.Bool.{then_some}
use Rattle.lines.specs.Digits.{digit, digit_in, number_from}

-- the number that a sign stands for is below 16
small_lem : (b : ℕ) → IfSome (digit b) (λ d. d < 16)
unfolding digit
small_lem b =
    let P : Option ℕ → Type 0 = λ o. IfSome o (λ d. d < 16) in
    on_pick P (leb 0x30 b && leb b 0x39) _ _ (λ e. omega (arith, leb-true b 0x39 (and_right (leb 0x30 b) _ e)))
    (λ _. on_pick P (leb 0x41 b && leb b 0x46) _ _ (λ e. omega (arith, leb-true b 0x46 (and_right (leb 0x41 b) _ e))) (λ _. tt))

pub digit_small : (b : ℕ) {d : ℕ} → digit b ≡ Some d → d < 16
digit_small b e = rw e at (small_lem b)

-- the number of a run of digits: what is left from place i on, behind digits that are n
module _ (base n : ℕ) (ds : List ℕ) (i : ℕ) where
  pub number_ends : length ds ≤ i → number_from base n (drop i ds) ≡ Some n
  unfolding number_from
  number_ends h = rw (drop_of_length-le ds h)

  module _ (inside : i < length ds) where
    pub number_next : number_from base n (drop i ds) ≡ option_and_then (λ d. number_from base (n * base + d) (drop (i + 1) ds)) (digit_in base (byte ds i))
    unfolding number_from
    number_next = rw (add-one, drop-cons ds i 0 inside)

-- the number of a digit of a base is below the base
pub digit_less : (base b d : ℕ) → digit_in base b ≡ Some d → d < base
unfolding digit_in
digit_less base b d e = grind (arith, then_some)

-- a number of i digits with one digit more, and a bound where that makes five digits at most
module _ (base n d i : ℕ) (small : n < base ^ i) (less : d < base) where
  pub one_more : n * base + d < base ^ (i + 1)
  one_more =
      let h : suc n * base ≤ base ^ i * base = mul-le-mul_right base small in
      rw (add-one, pow-suc) (omega (arith, suc-mul n base))

  pub five_small : base ≤ 16 → i < 5 → n * base + d < 1048576
  five_small most few =
      let five : i + 1 ≤ 5 = omega arith in
      let h : base ^ (i + 1) ≤ 1048576 = le_trans (pow-le-pow_left most (i + 1)) (pow-le-pow_right {n = 16} (omega arith) five) in
      omega (arith, one_more)

-- the laws by which the loop of `number_of` is proved
pub ruleset numbers = (number_ends, number_next, digit_less, one_more, five_small)

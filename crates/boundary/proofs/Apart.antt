-- Numbers that are packed into one are taken from it as they were: each is the digits of the sum in its own places. It is said of any three
-- numbers of which the lower two share the lowest 32 bits (`low_back`, `middle_back`, `high_back`), and then of a number, a count and a
-- length. Assumes nothing.
use Prim.Native.Nat.{ℕ, ◌+◌, ◌*◌, ◌^◌, ◌/◌, ◌%◌, ◌<◌}
use mathlib.Core.Path.{◌≡◌, refl, sym, ap, ◌∙◌}
use native.Mathlib.Nat.{add-mul, mul_assoc, mul_comm}
use native.Mathlib.Omega.{arith}
use lib.Arith.{digits_div, digits_mod}
use Rattle.boundary.specs.Packed.{packed, number_in, count_in, length_in, Fits}

-- three numbers in one, the middle one `p` times
abbrev pub sum : ℕ → ℕ → ℕ → ℕ → ℕ
sum p low middle high = low + (p * middle + 2 ^ 32 * high)

module _ (p q low middle high : ℕ) (whole : q * p ≡ 2 ^ 32) (small : low < p) (few : middle < q) where
  high_part : high * q * p ≡ 2 ^ 32 * high
  high_part = mul_assoc high q p ∙ ap (λ (n : ℕ). high * n) whole ∙ mul_comm high (2 ^ 32)

  behind_low : sum p low middle high ≡ (high * q + middle) * p + low
  behind_low = sum_of (p * middle) (2 ^ 32 * high) ∙ ap (λ (n : ℕ). n + low) (sym (add-mul (high * q) middle p ∙ (λ i. high_part i + mul_comm middle p i)))
    where
      sum_of : (a b : ℕ) → low + (a + b) ≡ b + a + low
      sum_of a b = omega arith

  pub low_back : sum p low middle high % p ≡ low
  low_back = ap (λ (n : ℕ). n % p) behind_low ∙ digits_mod (high * q + middle) small

  pub middle_back : sum p low middle high / p % q ≡ middle
  middle_back = ap (λ (n : ℕ). n / p % q) behind_low ∙ ap (λ (n : ℕ). n % q) (digits_div (high * q + middle) small) ∙ digits_mod high few

pub high_back : (p low middle high : ℕ) → low + p * middle < 2 ^ 32 → sum p low middle high / 2 ^ 32 ≡ high
high_back p low middle high below = ap (λ (n : ℕ). n / 2 ^ 32) (behind (p * middle)) ∙ digits_div high below
  where
    behind : (a : ℕ) → low + (a + 2 ^ 32 * high) ≡ high * 2 ^ 32 + (low + a)
    behind a = omega arith

-- a number below 2^8, a count below 2^24 above it, and a length above both
module _ (number count length : ℕ) (fits : Fits number count length) where
  pub number_back : number_in (packed number count length) ≡ number
  unfolding number_in packed
  number_back = low_back (2 ^ 8) (2 ^ 24) number count length refl fits.number fits.count

  pub count_back : count_in (packed number count length) ≡ count
  unfolding count_in packed
  count_back = middle_back (2 ^ 8) (2 ^ 24) number count length refl fits.number fits.count

  pub length_back : length_in (packed number count length) ≡ length
  unfolding length_in packed
  length_back = high_back (2 ^ 8) number count length (omega (arith, fits.number, fits.count))

-- The bytes of a length by its size, and a written run of bytes by its other name. Assumes nothing.
use mathlib.Core.Path.{◌≡◌, refl, ap, ◌∙◌}
use mathlib.Core.List.{List, [], ◌∷◌}
use Prim.Native.Nat.{ℕ, ◌+◌, ◌≤◌, ◌<◌}
use native.Mathlib.Omega.{arith}
use lib.Dec.{ltb}
use lib.ListN.{length}
use Rattle.octets.specs.Bytes.{bytes2, overwrite}
use Rattle.octets.proofs.Picks.{lt_yes, lt_no, on_pick}
use Rattle.tlv.specs.Lengths.{length_bytes}

-- the bytes of a length, by its size
module _ (n : ℕ) where
  pub length-one : n < 0x80 → n ∷ [] ≡ length_bytes n
  unfolding length_bytes
  length-one h = lt_yes n 0x80 _ h refl

  pub length_two : 0x80 ≤ n → n < 0x0100 → 0x81 ∷ n ∷ [] ≡ length_bytes n
  unfolding length_bytes
  length_two h g = lt_no n 0x80 _ h (lt_yes n 0x0100 _ g refl)

  pub length_three : 0x80 ≤ n → 0x0100 ≤ n → 0x82 ∷ bytes2 n ≡ length_bytes n
  unfolding length_bytes
  length_three h g = lt_no n 0x80 _ h (lt_no n 0x0100 _ g refl)

  pub length_some : 1 ≤ length (length_bytes n)
  unfolding length_bytes
  length_some =
      on_pick (λ (d : List ℕ). 1 ≤ length d) (ltb n 0x80) _ _ (λ e. omega arith)
      (λ e. on_pick (λ (d : List ℕ). 1 ≤ length d) (ltb n 0x0100) _ _ (λ f. omega arith) (λ f. omega arith))

  pub length-few : length (length_bytes n) ≤ 3
  unfolding length_bytes bytes2
  length-few =
      on_pick (λ (d : List ℕ). length d ≤ 3) (ltb n 0x80) _ _ (λ e. omega arith)
      (λ e. on_pick (λ (d : List ℕ). length d ≤ 3) (ltb n 0x0100) _ _ (λ f. omega arith) (λ f. omega arith))

-- a written run by its other name
module _ (m : List ℕ) (p : ℕ) where
  pub named : (k : ℕ) {w d e : List ℕ} → d ≡ e → k ≡ length d → w ≡ overwrite m p d → (w ≡ overwrite m p e) × (p + k ≡ p + length e)
  named k h l f = (rw h at f, ap (λ (x : ℕ). p + x) (l ∙ ap length h))

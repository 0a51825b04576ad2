-- Big-endian numbers: what two bytes are as a number, in a part too, and numbers of any length. Assumes nothing.
use mathlib.Core.Path.{◌≡◌, refl, sym, ap, ◌∙◌}
use mathlib.Core.List.{List, [], ◌∷◌, ◌++◌}
use Prim.Native.Nat.{ℕ, zero, suc, ◌+◌, ◌*◌, ◌^◌, ◌/◌, ◌%◌, ◌≤◌, ◌<◌}
use native.Mathlib.Nat.{zero-add, add-zero, add_assoc, add-mul, mul_assoc, mul_comm, zero-mul, pow-suc, mod-one, one-le-pow}
use native.Mathlib.Numerals.{add-one}
use native.Mathlib.Omega.{arith}
use lib.Arith.{mod-mul}
use lib.Pow.{pow-add}
use lib.ListN.{length, drop, length-append}
use lib.Seq.{get_or-take, get_or-drop}
use Rattle.octets.specs.Bytes.{byte, part, num_at, bytes2, value, bytes_of}

pub byte-part : (m : List ℕ) (p n i : ℕ) → i < n → byte (part m p n) i ≡ byte m (p + i)
byte-part m p n i h = get_or-take n (drop p m) i 0 h ∙ get_or-drop p m i 0

pub num_part : (m : List ℕ) (p n i : ℕ) → i + 2 ≤ n → num_at (part m p n) i ≡ num_at m (p + i)
unfolding num_at
num_part m p n i h = rw (byte-part m p n i (omega arith), byte-part m p n (i + 1) (omega arith), add_assoc)

num_front : (m : List ℕ) (at : ℕ) → num_at m at ≡ num_at (part m at 2) 0
num_front m at = sym (num_part m at 2 0 (omega arith) ∙ ap (num_at m) (add-zero at))

pub num_bytes2 : (n : ℕ) → n < 65536 → num_at (bytes2 n) 0 ≡ n
unfolding num_at bytes2
num_bytes2 n h = omega arith

pub num_of_part : (m : List ℕ) (at n : ℕ) → part m at 2 ≡ bytes2 n → n < 65536 → num_at m at ≡ n
num_of_part m at n e h = num_front m at ∙ ap (λ (l : List ℕ). num_at l 0) e ∙ num_bytes2 n h

pub num_small : (m : List ℕ) (at : ℕ) → byte m at < 256 → byte m (at + 1) < 256 → num_at m at < 65536
unfolding num_at
num_small m at high low = omega arith

-- numbers of any length
pub bytes_of-length : (k n : ℕ) → length (bytes_of k n) ≡ k
unfolding bytes_of
bytes_of-length zero n = refl
bytes_of-length (suc k) n = length-append (bytes_of k (n / 256)) (n % 256 ∷ []) ∙ ap (λ (l : ℕ). l + 1) (bytes_of-length k (n / 256)) ∙ add-one k

pub value-byte : (b : ℕ) → value (b ∷ []) ≡ b
unfolding value
value-byte b = zero-add b

value-two : (a b : ℕ) (bs : List ℕ) → value (a ∷ b ∷ bs) ≡ value ((a * 256 + b) ∷ bs)
unfolding value
value-two a b bs = simp zero-add

regroup : (b x p v : ℕ) → (b * 256 + x) * p + v ≡ b * (p * 256) + (x * p + v)
regroup b x p v = rw (add-mul, mul_assoc, mul_comm 256 p, add_assoc)

pub value-head : (b : ℕ) (bs : List ℕ) → value (b ∷ bs) ≡ b * 256 ^ length bs + value bs
unfolding value
value-head b [] = omega arith
value-head b (x ∷ bs) = value-two b x bs ∙ value-head (b * 256 + x) bs ∙ rw (value-head x bs, pow-suc) (regroup b x (256 ^ length bs) (value bs))

pub value_append : (a b : List ℕ) → value (a ++ b) ≡ value a * 256 ^ length b + value b
value_append [] b = unfold value in rw (zero-mul, zero-add)
value_append (x ∷ a) b = value-head x (a ++ b) ∙ rw (length-append, pow-add, value_append a b, value-head x a, add-mul, mul_assoc, add_assoc)

pub value-bytes_of : (k n : ℕ) → value (bytes_of k n) ≡ n % 256 ^ k
unfolding bytes_of
value-bytes_of zero n = unfold value in sym (mod-one n)
value-bytes_of (suc k) n = value_append (bytes_of k (n / 256)) (n % 256 ∷ []) ∙ rw (value-bytes_of k (n / 256), value-byte, pow-suc 256 k) (sym (mod-mul n (one-le-pow k 256 (omega arith)) (omega arith)))

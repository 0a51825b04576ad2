-- A run of bytes that stands at a place of another: its pieces stand one behind the other, and what is read there is what was written.
-- Where it stands the other is three runs joined, so each law is one about a seam. Assumes nothing.
use Prim.Native.Nat.{ℕ, ◌+◌, ◌≤◌, ◌<◌}
use mathlib.Core.Path.{◌≡◌, refl, sym, ap, ◌∙◌}
use mathlib.Core.List.{List, [], ◌∷◌, ◌++◌, append_assoc, append-nil}
use native.Mathlib.Omega.{arith}
use lib.ListN.{length, take, length-append}
use lib.Seq.{take-append_seam, drop-append_seam, get_or-append_seam}
use Rattle.octets.specs.Bytes.{byte, part, num_at, bytes2}
use Rattle.octets.proofs.Numbers.{num_of_part}
use Rattle.tlv.specs.declared.lengths.Length.TheVariants.{Found}
use Rattle.tlv.specs.Lengths.{length_at, length_bytes}
use Rattle.tlv.proofs.Behind.{length-read-behind}

pub record Stands (d answer : List ℕ) (at : ℕ) : Type 0 where
  pub pre : List ℕ
  pub rest : List ℕ
  pub whole : answer ≡ pre ++ (d ++ rest)
  pub place : at ≡ length pre

-- what holds of the three runs joined holds where one stands
on_stands : {d answer : List ℕ} {at : ℕ} (P : List ℕ → ℕ → Type 0) → Stands d answer at → ((pre rest : List ℕ) → P (pre ++ (d ++ rest)) (length pre)) → P answer at
on_stands P s h = rw (s.whole, s.place) (h s.pre s.rest)

-- all of it, a first and a second piece, and what is behind a first byte
pub stands-whole : (d : List ℕ) → Stands d d 0
stands-whole d = record { pre = []; rest = []; whole = sym (append-nil d); place = refl }

module _ (answer : List ℕ) (at : ℕ) where
  pub stands-first : (a b : List ℕ) → Stands (a ++ b) answer at → Stands a answer at
  stands-first a b s = record { pre = s.pre; rest = b ++ s.rest; whole = s.whole ∙ ap (λ (l : List ℕ). s.pre ++ l) (append_assoc a b s.rest); place = s.place }

  pub stands_second : (a b : List ℕ) → Stands (a ++ b) answer at → Stands b answer (at + length a)
  stands_second a b s =
      record {
        pre = s.pre ++ a;
        rest = s.rest;
        whole = s.whole ∙ simp append_assoc;
        place = ap (λ (k : ℕ). k + length a) s.place ∙ sym (length-append s.pre a);
      }

  pub stands-next : (b : ℕ) (d : List ℕ) → Stands (b ∷ d) answer at → Stands d answer (at + 1)
  stands-next b d = stands_second (b ∷ []) d

  -- it is inside
  pub stands-inside : (d : List ℕ) → Stands d answer at → at + length d ≤ length answer
  stands-inside d s = on_stands (λ (l : List ℕ) (k : ℕ). k + length d ≤ length l) s (λ pre rest. omega (arith, length-append pre (d ++ rest), length-append d rest))

  -- its bytes, its first one, and a number of two
  pub stands-part : (d : List ℕ) → Stands d answer at → part answer at (length d) ≡ d
  stands-part d s = on_stands (λ (l : List ℕ) (k : ℕ). part l k (length d) ≡ d) s (λ pre rest. ap (take (length d)) (drop-append_seam pre (d ++ rest)) ∙ take-append_seam d rest)

  pub stands-byte : (b : ℕ) (d : List ℕ) → Stands (b ∷ d) answer at → byte answer at ≡ b
  stands-byte b d s = on_stands (λ (l : List ℕ) (k : ℕ). byte l k ≡ b) s (λ pre rest. get_or-append_seam pre b (d ++ rest) 0)

  pub stands_num : (n : ℕ) → n < 65536 → Stands (bytes2 n) answer at → num_at answer at ≡ n
  unfolding bytes2
  stands_num n small s = num_of_part answer at n (stands-part (bytes2 n) s) small

  -- a length
  pub stands-length : (n : ℕ) → n < 65536 → Stands (length_bytes n) answer at → length_at answer at (length answer) ≡ Found n (at + length (length_bytes n))
  stands-length n small s =
      on_stands (λ (l : List ℕ) (k : ℕ). length_at l k (length l) ≡ Found n (k + length (length_bytes n))) s
      (λ pre rest. rw (length-append pre (length_bytes n ++ rest)) (length-read-behind pre n rest (length (length_bytes n ++ rest)) small (omega (arith, length-append (length_bytes n) rest))))

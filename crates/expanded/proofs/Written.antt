-- The bytes of a count by its size, one written run of bytes behind another, an R-APDU and the answers in their writes, and how long an answer can be. Assumes nothing.
use mathlib.Core.Path.{◌≡◌, refl, sym, ap, ◌∙◌}
use mathlib.Core.Bool.{Bool, true, false}
use mathlib.Core.List.{List, [], ◌∷◌, ◌++◌, append_assoc}
use Prim.Native.Nat.{ℕ, ◌+◌, ◌≤◌, ◌<◌}
use native.Mathlib.Omega.{arith}
use lib.Dec.{ltb}
use lib.ListN.{length, length-append}
use Rattle.octets.specs.Choice.{pick}
use Rattle.octets.specs.Bytes.{bytes2, overwrite}
use Rattle.octets.proofs.Picks.{lt_yes, lt_no, on_pick}
use Rattle.octets.proofs.Writes.{write_two}
use Rattle.tlv.specs.Lengths.{length_bytes}
use Rattle.tlv.proofs.Written.{length-one, length-few}
use Rattle.step.specs.Limits.{rapdu_size}
use Rattle.expanded.specs.Expanded.{rapdu, count_bytes, definite_body, definite_answer, indefinite_answer, answer_bytes, room_to_gather, room_to_answer}

-- the bytes of a count, by its size
module _ (n : ℕ) where
  pub count-one : n < 0x80 → n ∷ [] ≡ count_bytes n
  unfolding count_bytes
  count-one h = lt_yes n 0x80 _ h refl

  pub count-two : 0x80 ≤ n → bytes2 n ≡ count_bytes n
  unfolding count_bytes
  count-two h = lt_no n 0x80 _ h refl

  pub count-few : length (count_bytes n) ≤ 2
  unfolding count_bytes bytes2
  count-few = on_pick (λ (d : List ℕ). length d ≤ 2) (ltb n 0x80) _ _ (λ y. omega arith) (λ y. omega arith)

-- one written run behind another
module _ (m : List ℕ) (p : ℕ) where
  pub after : (a b : List ℕ) {w u : List ℕ} {q : ℕ} → w ≡ overwrite m p a → q ≡ p + length a → u ≡ overwrite w q b → p + length a + length b ≤ length m → u ≡ overwrite m p (a ++ b)
  after a b e f g fits = g ∙ (λ i. overwrite (e i) (f i) b) ∙ sym (write_two m p a b fits)

-- an R-APDU: tag, length, data and status
pub rapdu-length : (d : List ℕ) (word : ℕ) → length (rapdu d word) ≡ rapdu_size (length d)
unfolding rapdu rapdu_size bytes2
rapdu-length d word = simp length-append (omega arith)

module _ (m : List ℕ) (p : ℕ) (d : List ℕ) (word : ℕ) {n : ℕ} (size : n ≡ length d) (fits : p + rapdu_size n ≤ length m) {w1 w2 w3 w4 : List ℕ} {from end : ℕ} where
  pub rapdu-written : w1 ≡ overwrite m p (0x23 ∷ []) → w2 ≡ overwrite w1 (p + 1) (length_bytes (n + 2)) → from ≡ p + 1 + length (length_bytes (n + 2)) → w3 ≡ overwrite w2 from d → end ≡ from + n → w4 ≡ overwrite w3 end (bytes2 word) → (w4 ≡ overwrite m p (rapdu d word)) × (end + 2 ≡ p + rapdu_size n)
  unfolding rapdu rapdu_size bytes2
  rapdu-written h1 h2 f h3 e h4 =
      let l : List ℕ = length_bytes (n + 2) in
      let e2 = after m p (0x23 ∷ []) l h1 refl h2 (omega arith) in
      let e3 = after m p (0x23 ∷ l) d e2 (omega arith) h3 (omega arith) in
      let e4 = after m p (0x23 ∷ (l ++ d)) (bytes2 word) e3 (omega (arith, length-append l d)) h4 (omega (arith, length-append l d)) in
      ((rw append_assoc at e4) ∙ ap (λ (k : ℕ). overwrite m p (0x23 ∷ (length_bytes (k + 2) ++ (d ++ bytes2 word)))) size, omega arith)

-- the answer to AA: tag, length, tag and length of the count, count, and R-APDUs
module _ (count : ℕ) (rapdus : List ℕ) {size : ℕ} (sized : size ≡ length (count_bytes count)) where
  body_length : length (definite_body count rapdus) ≡ 2 + (size + length rapdus)
  unfolding definite_body
  body_length = rw (← (length-one (length (count_bytes count)) (omega (arith, count-few count))), length-append) (omega arith)

  answer-length : length (definite_answer count rapdus) ≡ 1 + (length (length_bytes (2 + (size + length rapdus))) + (2 + (size + length rapdus)))
  unfolding definite_answer
  answer-length = rw body_length (omega (arith, body_length, length-append (length_bytes (2 + (size + length rapdus))) (definite_body count rapdus)))

module _ (m : List ℕ) (count : ℕ) (rapdus : List ℕ) (room : room_to_answer ≤ length m) (few : length rapdus ≤ room_to_gather) {size : ℕ} (sized : size ≡ length (count_bytes count)) {w1 w2 w3 w4 w5 : List ℕ} {at from : ℕ} where
  pub definite-written : w1 ≡ overwrite m 0 (0xAB ∷ []) → w2 ≡ overwrite w1 1 (length_bytes (2 + (size + length rapdus))) → at ≡ 1 + length (length_bytes (2 + (size + length rapdus))) → w3 ≡ overwrite w2 at (0x80 ∷ size ∷ []) → w4 ≡ overwrite w3 (at + 2) (count_bytes count) → from ≡ at + 2 + length (count_bytes count) → w5 ≡ overwrite w4 from rapdus → (w5 ≡ overwrite m 0 (definite_answer count rapdus)) × (from + length rapdus ≡ length (definite_answer count rapdus))
  unfolding definite_answer definite_body
  definite-written h1 h2 a h3 h4 f h5 =
      let n : List ℕ = count_bytes count in
      let l : List ℕ = length_bytes (2 + (size + length rapdus)) in
      let s : 0x80 ∷ size ∷ [] ≡ 0x80 ∷ length_bytes (length n) = ap (λ (k : ℕ). 0x80 ∷ k ∷ []) sized ∙ ap (λ (d : List ℕ). 0x80 ∷ d) (length-one (length n) (omega (arith, count-few count))) in
      let k : List ℕ = 0x80 ∷ length_bytes (length n) in
      let kl : length k ≡ 2 = sym (ap length s) in
      let ll = length-few (2 + (size + length rapdus)) in
      let nl = count-few count in
      let l3 = length-append l k in
      let l4 = length-append (l ++ k) n in
      let e2 = after m 0 (0xAB ∷ []) l h1 refl h2 (omega arith) in
      let e3 = after m 0 (0xAB ∷ l) k e2 (omega arith) (h3 ∙ ap (overwrite w2 at) s) (omega arith) in
      let e4 = after m 0 (0xAB ∷ (l ++ k)) n e3 (omega arith) h4 (omega arith) in
      let e5 = after m 0 (0xAB ∷ ((l ++ k) ++ n)) rapdus e4 (omega arith) h5 (omega arith) in
      ((rw (append_assoc, append_assoc) at e5) ∙ ap (λ (k : ℕ). overwrite m 0 (0xAB ∷ (length_bytes k ++ definite_body count rapdus))) (sym (body_length count rapdus sized)), rw (answer-length count rapdus sized) (omega arith))

-- the answer to AE: tag and 80, R-APDUs, and 00 00
pub indefinite-written : (m rapdus : List ℕ) → room_to_answer ≤ length m → length rapdus ≤ room_to_gather → {w1 w2 w3 : List ℕ} → w1 ≡ overwrite m 0 (0xAF ∷ 0x80 ∷ []) → w2 ≡ overwrite w1 2 rapdus → w3 ≡ overwrite w2 (2 + length rapdus) (0 ∷ 0 ∷ []) → (w3 ≡ overwrite m 0 (indefinite_answer rapdus)) × (2 + length rapdus + 2 ≡ length (indefinite_answer rapdus))
unfolding indefinite_answer
indefinite-written m rapdus room few h1 h2 h3 =
    let e2 = after m 0 (0xAF ∷ 0x80 ∷ []) rapdus h1 refl h2 (omega arith) in
    (after m 0 (0xAF ∷ 0x80 ∷ rapdus) (0 ∷ 0 ∷ []) e2 (omega arith) h3 (omega arith), rw length-append (omega arith))

-- either has at most ten bytes besides the R-APDUs
pub answer-few : (definite : Bool) (count : ℕ) (rapdus : List ℕ) → length (answer_bytes definite count rapdus) ≤ 10 + length rapdus
unfolding answer_bytes indefinite_answer pick
answer-few true count rapdus = omega (arith, answer-length count rapdus refl, length-few (2 + (length (count_bytes count) + length rapdus)), count-few count)
answer-few false count rapdus = omega (arith, length-append rapdus (0 ∷ 0 ∷ []))

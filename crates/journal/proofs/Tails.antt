-- The bytes of an entry: those of a whole one that ends somewhere, and those of one that stands after others.
-- An entry is its old bytes and a tail of 8 that tells how many they are, so it can be found from its end. Both ways are shown:
-- where an entry can be read, its bytes are the encoding of what is read (`entry_bytes_lem`); and where the encoding of an entry stands
-- after the first u bytes of entries, that entry is read (`entry_there`), and before it those u bytes (`next_reading`). A place and
-- a count below 65536 are read back from their two bytes as they were (`tail_in_lem`). Assumes nothing.
use mathlib.Core.Path.{◌≡◌, sym, ap, ◌∙◌}
use mathlib.Core.Bool.{true}
use mathlib.Core.List.{List, ◌∷◌, ◌++◌}
use Prim.Native.Nat.{ℕ, ◌+◌, ◌-◌, ◌≤◌, ◌<◌}
use native.Mathlib.Omega.{arith}
use lib.Dec.{leb}
use lib.ListN.{length, take, drop, length-append}
use lib.Seq.{take-add, drop-drop, drop-append_seam, take-append_seam}
use borrow.Author.Tests.{le-leb}
use Rattle.octets.specs.Bytes.{part, num_at, bytes2}
use Rattle.octets.proofs.Picks.{and_right}
use Rattle.octets.proofs.Numbers.{num_bytes2}
use Rattle.octets.proofs.Writes.{part_length, part-part}
use Rattle.octets.proofs.Same.{same_true, same_refl}
use Rattle.journal.specs.Entries.{Entry, head_size, tail, encode, tail_size, entry_bytes, tail_bytes, tail_in, tail_at, formed, old_place, entry_at, readable}
use Rattle.journal.proofs.Entries.{Reading, more, before, size_fits}

-- how many there are, the last of them, and what these hold
pub encode-length : (e : Entry) → length (encode e) ≡ entry_bytes (length e.old)
unfolding encode tail bytes2
encode-length e = rw length-append (omega arith)

tail_of : (e : Entry) → part (encode e) (length e.old) tail_size ≡ tail e.kind e.place (length e.old)
unfolding encode tail bytes2
tail_of e = ap (take tail_size) (drop-append_seam e.old (tail e.kind e.place (length e.old)))

module _ (kind place n : ℕ) (near : place < 65536) (few : n < 65536) where
  tail_in_lem : tail_in (tail kind place n) ≡ record { kind = kind; place = place; size = n }
  unfolding tail_in tail bytes2 num_at
  tail_in_lem = λ i. record { kind = kind; place = num_bytes2 place near i; size = num_bytes2 n few i }

  tail_formed : formed (tail kind place n) ≡ true
  unfolding formed
  tail_formed = rw tail_in_lem (same_refl (tail kind place n))

-- where a whole entry ends
module _ (j : List ℕ) (u : ℕ) (whole : readable j u ≡ true) where
  tail-is : tail_bytes j u ≡ tail (tail_at j u).kind (tail_at j u).place (tail_at j u).size
  unfolding readable formed tail_at
  tail-is = same_true _ _ (and_right (leb (entry_bytes (tail_at j u).size) u) _ whole)

  pub begins : before j u + entry_bytes (tail_at j u).size ≡ u
  begins = let c = size_fits j u whole in omega arith

  module _ (fits : head_size + u ≤ length j) where
    pub old-length : length (entry_at j u).old ≡ (tail_at j u).size
    unfolding entry_at old_place
    old-length = let c = size_fits j u whole in part_length j (head_size + u - entry_bytes (tail_at j u).size) (tail_at j u).size (omega arith)

    entry-end : part j (head_size + before j u + (tail_at j u).size) tail_size ≡ tail (tail_at j u).kind (tail_at j u).place (length (entry_at j u).old)
    unfolding tail_bytes
    entry-end =
        let c = size_fits j u whole in
        let q : head_size + before j u + (tail_at j u).size ≡ head_size + u - tail_size = omega arith in
        rw (q, old-length) tail-is

    pub entry_bytes_lem : part j (head_size + before j u) (entry_bytes (tail_at j u).size) ≡ encode (entry_at j u)
    unfolding encode entry_at old_place
    entry_bytes_lem =
        let c = size_fits j u whole in
        let n = (tail_at j u).size in
        let at = head_size + before j u in
        let swap : entry_bytes n ≡ n + tail_size = omega arith in
        let front : at ≡ head_size + u - entry_bytes n = omega arith in
        ap (part j at) swap ∙ take-add n tail_size (drop at j)
        ∙ (λ i. part j (front i) n ++ take tail_size (drop-drop n at j i)) ∙ ap (λ (l : List ℕ). (entry_at j u).old ++ l) entry-end

-- an entry whose bytes stand behind the first u bytes of entries is the next one
module _ (m : List ℕ) (u : ℕ) (e : Entry) (there : part m (head_size + u) (length (encode e)) ≡ encode e) (near : e.place < 65536) (few : length e.old < 65536) where
  tail_there : tail_bytes m (u + length (encode e)) ≡ tail e.kind e.place (length e.old)
  unfolding tail_bytes
  tail_there =
      let l = encode-length e in
      let n = length e.old in
      let q : head_size + (u + length (encode e)) - tail_size ≡ head_size + u + n = omega arith in
      rw q (sym (part-part m (head_size + u) (length (encode e)) n tail_size (omega arith)) ∙ ap (λ (k : List ℕ). part k n tail_size) there ∙ tail_of e)

  at_there : tail_at m (u + length (encode e)) ≡ record { kind = e.kind; place = e.place; size = length e.old }
  unfolding tail_at
  at_there = ap tail_in tail_there ∙ tail_in_lem e.kind e.place (length e.old) near few

  readable_there : readable m (u + length (encode e)) ≡ true
  unfolding readable
  readable_there =
      let l = encode-length e in
      rw (at_there, tail_there, le-leb (entry_bytes (length e.old)) (u + length (encode e)) (omega arith))
      (tail_formed e.kind e.place (length e.old) near few)

  old_there : part m (head_size + (u + length (encode e)) - entry_bytes (length e.old)) (length e.old) ≡ e.old
  unfolding encode
  old_there =
      let l = encode-length e in
      let n = length e.old in
      let q : head_size + (u + length (encode e)) - entry_bytes n ≡ head_size + u + 0 = omega arith in
      rw q (sym (part-part m (head_size + u) (length (encode e)) 0 n (omega arith)) ∙ ap (take n) there ∙ take-append_seam e.old (tail e.kind e.place n))

  entry_there : entry_at m (u + length (encode e)) ≡ e
  unfolding entry_at old_place
  entry_there = rw (at_there, old_there)

  pub next_reading : {es : List Entry} → Reading m u es → Reading m (u + length (encode e)) (e ∷ es)
  next_reading {es} rest =
      let l = encode-length e in
      let b : before m (u + length (encode e)) ≡ u = rw at_there (omega arith) in
      rw entry_there at (more {es = es} readable_there (rw b rest))

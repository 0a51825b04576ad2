-- What one more entry does to a journal: to its length, its head, its entries and its other bytes.
-- One more entry is two writes that do not meet: its bytes after the used ones, and a new head over the old one. So what stands
-- after the head is as if only the first were made (`behind-head`): the bytes of the earlier entries and all those after the new
-- entry are as they were, and the new head counts the new entry. Read back from the end, the first entry is the new one
-- (`next_reading`), and then come the earlier ones, whose bytes are the same (`same_reading`). Assumes nothing.
use mathlib.Core.Path.{◌≡◌, refl, sym, ap, ◌∙◌}
use mathlib.Core.List.{List, ◌∷◌}
use Prim.Native.Nat.{ℕ, ◌+◌, ◌≤◌, ◌<◌}
use native.Mathlib.Nat.{le_refl}
use native.Mathlib.Omega.{arith}
use lib.ListN.{length, take, drop}
use Rattle.octets.specs.Bytes.{byte, part, bytes2, overwrite}
use Rattle.octets.proofs.Writes.{part-part, part-before, part-here, write-length, drop-after}
use Rattle.octets.proofs.Numbers.{num_of_part, byte-part}
use Rattle.journal.specs.declared.Head.{Head}
use Rattle.journal.specs.Entries.{Entry, head_size, head, head_bytes, head_of, used_bytes, scripts_on_trial, flag_of, encode, entry_bytes, mark, entries_of}
use Rattle.journal.specs.Promised.{HasRoom}
use Rattle.journal.specs.Changes.{pushed, marked}
use Rattle.journal.proofs.Entries.{read_all, read_only, same_reading}
use Rattle.journal.proofs.Tails.{encode-length, next_reading}

-- the numbers of a head that is a journal's
module _ (j : List ℕ) {h : Head} (own : h ≡ head_of j) where
  pub own_used : h.used ≡ used_bytes j
  own_used = λ i. (own i).used

  pub own_scripts : h.scripts ≡ scripts_on_trial j
  own_scripts = λ i. (own i).scripts

  pub own_flag : h.flag ≡ flag_of j
  own_flag = λ i. (own i).flag

-- the bytes of a head
pub head-length : (h : Head) → length (head_bytes h) ≡ head_size
unfolding head_bytes bytes2
head-length h = refl

module _ (m : List ℕ) (h : Head) (there : part m 0 head_size ≡ head_bytes h) where
  pub head-used : h.used < 65536 → used_bytes m ≡ h.used
  unfolding used_bytes head_bytes bytes2
  head-used small = num_of_part m 0 h.used (sym (part-part m 0 head_size 0 2 (omega arith)) ∙ ap (λ (k : List ℕ). part k 0 2) there) small

  pub head_scripts : scripts_on_trial m ≡ h.scripts
  unfolding scripts_on_trial head_bytes bytes2
  head_scripts = sym (byte-part m 0 head_size 2 (omega arith)) ∙ ap (λ (k : List ℕ). byte k 2) there

  pub head_flag : flag_of m ≡ h.flag
  unfolding flag_of head_bytes bytes2
  head_flag = sym (byte-part m 0 head_size 3 (omega arith)) ∙ ap (λ (k : List ℕ). byte k 3) there

-- one more entry
module _ (j : List ℕ) (s : ℕ) (e : Entry) (fits : HasRoom j (length (encode e))) where
  -- the head after it
  abbrev next : Head
  next = head (used_bytes j + length (encode e)) s (flag_of j)

  written-length : length (overwrite j (head_size + used_bytes j) (encode e)) ≡ length j
  written-length = write-length j (head_size + used_bytes j) (encode e) fits

  head-fits : 0 + length (head_bytes next) ≤ length (overwrite j (head_size + used_bytes j) (encode e))
  head-fits = rw (written-length, head-length) (omega arith)

  -- what stands behind the head: as if the head had not been written
  behind-head : (a : ℕ) → head_size ≤ a → drop a (pushed j s e) ≡ drop a (overwrite j (head_size + used_bytes j) (encode e))
  unfolding pushed
  behind-head a h =
      drop-after (overwrite j (head_size + used_bytes j) (encode e)) 0 (head_bytes next) head-fits a
      (rw head-length (omega arith))

  pub pushed-length : length (pushed j s e) ≡ length j
  unfolding pushed
  pushed-length = write-length (overwrite j (head_size + used_bytes j) (encode e)) 0 (head_bytes next) head-fits ∙ written-length

  pub pushed-head : part (pushed j s e) 0 head_size ≡ head_bytes next
  unfolding pushed
  pushed-head =
      part-here (overwrite j (head_size + used_bytes j) (encode e)) 0 (head_bytes next) head-fits head_size
      (head-length next)

  pub pushed-kept : part (pushed j s e) head_size (used_bytes j) ≡ part j head_size (used_bytes j)
  pushed-kept =
      ap (take (used_bytes j)) (behind-head head_size (omega arith))
      ∙ part-before j (head_size + used_bytes j) (encode e) fits head_size (used_bytes j) (omega arith)

  pub pushed-entry : part (pushed j s e) (head_size + used_bytes j) (length (encode e)) ≡ encode e
  pushed-entry =
      ap (take (length (encode e))) (behind-head (head_size + used_bytes j) (omega arith))
      ∙ part-here j (head_size + used_bytes j) (encode e) fits (length (encode e)) refl

  pub pushed-rest : drop (head_size + (used_bytes j + length (encode e))) (pushed j s e) ≡ drop (head_size + (used_bytes j + length (encode e))) j
  pushed-rest =
      behind-head (head_size + (used_bytes j + length (encode e))) (omega arith)
      ∙ drop-after j (head_size + used_bytes j) (encode e) fits (head_size + (used_bytes j + length (encode e))) (omega arith)

  pub pushed_scripts : scripts_on_trial (pushed j s e) ≡ s
  pushed_scripts = head_scripts (pushed j s e) next pushed-head

  pub pushed_flag : flag_of (pushed j s e) ≡ flag_of j
  pushed_flag = head_flag (pushed j s e) next pushed-head

  module _ (short : length j ≤ 65535) where
    pub pushed-used : used_bytes (pushed j s e) ≡ used_bytes j + length (encode e)
    pushed-used = head-used (pushed j s e) next pushed-head (omega arith)

    pub pushed-next : next ≡ head_of (pushed j s e)
    pushed-next = λ i. head (sym pushed-used i) (sym pushed_scripts i) (sym pushed_flag i)

    pub pushed-entries : e.place < 65536 → entries_of (pushed j s e) ≡ e ∷ entries_of j
    unfolding entries_of
    pushed-entries near =
        let l = encode-length e in
        let u = used_bytes j + length (encode e) in
        rw pushed-used
        (read_only u (le_refl u)
        (next_reading (pushed j s e) (used_bytes j) e pushed-entry near (omega arith)
        (same_reading j (pushed j s e) (sym pushed-kept) (read_all j))))

-- a journal that holds one more entry than another, with `s` scripts on trial
pub record Grown (j k : List ℕ) (s : ℕ) (e : Entry) : Type 0 where
  pub size : length k ≡ length j
  pub scripts : scripts_on_trial k ≡ s
  pub kept : part k head_size (used_bytes j) ≡ part j head_size (used_bytes j)
  pub used : used_bytes k ≡ used_bytes j + entry_bytes (length e.old)
  pub entries : entries_of k ≡ e ∷ entries_of j

pub pushed-grown : (j : List ℕ) (s : ℕ) (e : Entry) → HasRoom j (length (encode e)) → length j ≤ 65535 → e.place < 65536 → Grown j (pushed j s e) s e
pushed-grown j s e fits short near =
    record {
      size = pushed-length j s e fits;
      scripts = pushed_scripts j s e fits;
      kept = pushed-kept j s e fits;
      used = rw (← (encode-length e)) (pushed-used j s e fits short);
      entries = pushed-entries j s e fits short near;
    }

-- one more mark
module _ (j : List ℕ) (left : HasRoom j (entry_bytes 0)) where
  pub mark_fits_lem : HasRoom j (length (encode mark))
  unfolding mark
  mark_fits_lem = rw (encode-length mark) left

  pub marked_scripts : scripts_on_trial (marked j) ≡ scripts_on_trial j + 1
  unfolding marked
  marked_scripts = pushed_scripts j (scripts_on_trial j + 1) mark mark_fits_lem

  pub marked-grown : length j ≤ 65535 → Grown j (marked j) (scripts_on_trial j + 1) mark
  unfolding marked mark
  marked-grown short = pushed-grown j (scripts_on_trial j + 1) mark mark_fits_lem short (omega arith)

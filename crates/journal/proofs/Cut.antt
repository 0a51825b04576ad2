-- What a journal cut back holds: its head, its entries, and zeros behind them. Assumes nothing.
use mathlib.Core.Path.{◌≡◌, sym, ap, ◌∙◌}
use mathlib.Core.List.{List, ◌++◌}
use Prim.Native.Nat.{ℕ, ◌+◌, ◌-◌, ◌≤◌}
use native.Mathlib.Nat.{le_refl}
use native.Mathlib.Omega.{arith}
use lib.ListN.{length, take, drop, length-append, length-replicate, replicate-append-replicate}
use lib.Seq.{take_at, drop_at, drop-drop}
use Rattle.octets.specs.Bytes.{part, bytes2, zeros}
use Rattle.octets.proofs.Writes.{part_length}
use Rattle.journal.specs.declared.Head.{Head}
use Rattle.journal.specs.Entries.{Entry, head_size, head, head_bytes, used_bytes, scripts_on_trial, entries_of}
use Rattle.journal.specs.Changes.{cut_back}
use Rattle.journal.proofs.Entries.{Reading, read_only, same_reading}
use Rattle.journal.proofs.Pushed.{head-length, head-used, head_scripts}

module _ (j : List ℕ) (h : Head) (fits : head_size + h.used ≤ length j) where
  kept-length : length (part j head_size h.used) ≡ h.used
  kept-length = part_length j head_size h.used fits

  pub cut_length : length (cut_back j h) ≡ length j
  unfolding cut_back
  cut_length = rw (length-append, head-length, length-append, kept-length, length-replicate) (omega arith)

  pub cut_head : part (cut_back j h) 0 head_size ≡ head_bytes h
  unfolding cut_back
  cut_head = take_at (head_bytes h) (part j head_size h.used ++ zeros (length j - (head_size + h.used))) head_size (head-length h)

  behind-head : drop head_size (cut_back j h) ≡ part j head_size h.used ++ zeros (length j - (head_size + h.used))
  unfolding cut_back
  behind-head = drop_at (head_bytes h) (part j head_size h.used ++ zeros (length j - (head_size + h.used))) head_size (head-length h)

  pub cut_kept : part (cut_back j h) head_size h.used ≡ part j head_size h.used
  cut_kept = ap (take h.used) behind-head ∙ take_at (part j head_size h.used) (zeros (length j - (head_size + h.used))) h.used kept-length

  pub cut_rest : drop (head_size + h.used) (cut_back j h) ≡ zeros (length j - (head_size + h.used))
  cut_rest =
      sym (drop-drop h.used head_size (cut_back j h)) ∙ ap (drop h.used) behind-head
      ∙ drop_at (part j head_size h.used) (zeros (length j - (head_size + h.used))) h.used kept-length

  pub cut_scripts : scripts_on_trial (cut_back j h) ≡ h.scripts
  cut_scripts = head_scripts (cut_back j h) h cut_head

  module _ (short : length j ≤ 65535) where
    pub cut_used : used_bytes (cut_back j h) ≡ h.used
    cut_used = head-used (cut_back j h) h cut_head (omega arith)

    pub cut_entries : {es : List Entry} → Reading j h.used es → entries_of (cut_back j h) ≡ es
    unfolding entries_of
    cut_entries r = rw cut_used (read_only h.used (le_refl h.used) (same_reading j (cut_back j h) (sym cut_kept) r))

-- with no entry and no script on trial it is all zeros
pub cut_whole : (j : List ℕ) → head_size ≤ length j → cut_back j (head 0 0 0) ≡ zeros (length j)
unfolding cut_back head_bytes bytes2
cut_whole j h =
    let e : head_size + (length j - head_size) ≡ length j = omega arith in
    replicate-append-replicate head_size (length j - head_size) 0 ∙ ap zeros e

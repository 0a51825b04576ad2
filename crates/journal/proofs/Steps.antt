-- The steps of what changes a journal, over plain variables: an entry appended, the journal cut back, taken back and confirmed. Assumes nothing.
use mathlib.Core.Path.{◌≡◌, refl, sym, ap, ◌∙◌}
use mathlib.Core.Bool.{true}
use mathlib.Core.List.{List, [], ◌∷◌, ◌++◌, append_assoc}
use Prim.Native.Nat.{ℕ, ◌+◌, ◌-◌, ◌≤◌}
use native.Mathlib.Omega.{arith}
use lib.ListN.{length, take, drop, length-drop, length-replicate, replicate-append-replicate}
use lib.Seq.{take-append-add}
use Rattle.octets.specs.Bytes.{part, bytes2, overwrite, zeros, all_zero}
use Rattle.octets.proofs.Same.{zero-true}
use Rattle.octets.proofs.Writes.{write-none, write_two, drop-after}
use Rattle.card.specs.Row.{Card, lent}
use Rattle.journal.specs.declared.Head.{Head}
use Rattle.journal.specs.Entries.{Entry, entry_of, head_size, head, head_bytes, head_of, tail, encode, entry_bytes, marks_start, mark, entries_back, entries_of, used_bytes, scripts_on_trial, flag_of}
use Rattle.journal.specs.Promised.{HasRoom}
use Rattle.journal.specs.Sound.{all_sound, marks, sound_card}
use Rattle.journal.specs.Changes.{head_after, pushed, marked, restore, since_mark, behind_mark, bytes_taken, cut_back, with_journal, taken_back}
use Rattle.journal.proofs.Tails.{encode-length}
use Rattle.journal.proofs.Pushed.{own_used, own_scripts, own_flag, head-length, pushed-next}
use Rattle.journal.proofs.Parts.{used-inside, card_parts}
use Rattle.journal.proofs.Cut.{cut_whole}

-- old bytes, then their tail and the head
module _ (j old : List ℕ) (kind place n : ℕ) (h : Head) {j₁ j₂ : List ℕ} (used : h.used ≡ used_bytes j) (flag : h.flag ≡ flag_of j) (count : length old ≡ n) (fits : head_size + h.used + entry_bytes n ≤ length j) (first : j₁ ≡ overwrite j (head_size + h.used) old) (second : j₂ ≡ overwrite (overwrite j₁ (head_size + h.used + n) (tail kind place n)) 0 (head_bytes (head_after h (entry_bytes n)))) where
  entry_whole : overwrite j₁ (head_size + h.used + n) (tail kind place n) ≡ overwrite j (head_size + h.used) (encode (entry_of kind place old))
  unfolding encode tail bytes2
  entry_whole = rw (first, ← count) (sym (write_two j (head_size + h.used) old (tail kind place (length old)) (omega arith)))

  entry_takes : entry_bytes n ≡ length (encode (entry_of kind place old))
  entry_takes = sym (encode-length (entry_of kind place old) ∙ ap entry_bytes count)

  pub push_steps : j₂ ≡ pushed j h.scripts (entry_of kind place old)
  unfolding pushed
  push_steps =
      second ∙ (λ i. overwrite (entry_whole i) 0 (head_bytes (head_after h (entry_takes i))))
      ∙ (λ i. overwrite (overwrite j (head_size + used i) (encode (entry_of kind place old))) 0 (head_bytes (head (used i + length (encode (entry_of kind place old))) h.scripts (flag i))))

-- the same where the head is the journal's own: the head after it is the journal's too
module _ (j old : List ℕ) (kind place n : ℕ) {h r : Head} {j₁ j₂ : List ℕ} (own : h ≡ head_of j) (short : length j ≤ 65535) (count : length old ≡ n) (fits : head_size + h.used + entry_bytes n ≤ length j) (first : j₁ ≡ overwrite j (head_size + h.used) old) (second : (j₂ ≡ overwrite (overwrite j₁ (head_size + h.used + n) (tail kind place n)) 0 (head_bytes (head_after h (entry_bytes n)))) × (r ≡ head_after h (entry_bytes n))) where
  abbrev entry : Entry
  entry = entry_of kind place old

  pub write-pushed : j₂ ≡ pushed j (scripts_on_trial j) entry
  write-pushed =
      push_steps j old kind place n h (own_used j own) (own_flag j own) count fits first second.0
      ∙ ap (λ (x : ℕ). pushed j x entry) (own_scripts j own)

  pub write-head : r ≡ head_of j₂
  write-head =
      let takes : entry_bytes n ≡ length (encode entry) = sym (encode-length entry ∙ ap entry_bytes count) in
      let left : HasRoom j (length (encode entry)) = rw (← takes) (rw own at fits) in
      second.1 ∙ (λ i. head_after (own i) (takes i)) ∙ pushed-next j (scripts_on_trial j) entry left short ∙ ap head_of (sym write-pushed)

-- a mark, with the head that was read and one script more
pub mark_steps : (j : List ℕ) {h : Head} {j₁ : List ℕ} → h ≡ head_of j → HasRoom j (entry_bytes 0) → j₁ ≡ overwrite (overwrite j (head_size + h.used + 0) (tail marks_start 0 0)) 0 (head_bytes (head_after (head h.used (h.scripts + 1) h.flag) (entry_bytes 0))) → j₁ ≡ marked j
unfolding marked mark
mark_steps j {h} own left step =
    push_steps j [] marks_start 0 0 (head h.used (h.scripts + 1) h.flag) (own_used j own) (own_flag j own) refl (rw own left) (sym (write-none j (head_size + h.used))) step
    ∙ ap (λ (x : ℕ). pushed j (x + 1) (entry_of marks_start 0 [])) (own_scripts j own)

-- the journal cut back: its head, then the freed bytes
module _ (j : List ℕ) (h : Head) (used : ℕ) {j₁ j₂ : List ℕ} (less : h.used ≤ used) (fits : head_size + used ≤ length j) (rest : all_zero (drop (head_size + used) j) ≡ true) (first : j₁ ≡ overwrite j 0 (bytes2 h.used ++ (h.scripts ∷ h.flag ∷ []))) (second : j₂ ≡ overwrite j₁ (head_size + h.used) (zeros (used - h.used))) where
  kept : take (head_size + h.used) (overwrite j 0 (head_bytes h)) ≡ head_bytes h ++ part j head_size h.used
  unfolding overwrite head_bytes bytes2
  kept = take-append-add (head_bytes h) (drop head_size j) h.used

  freed : drop (head_size + h.used + length (zeros (used - h.used))) (overwrite j 0 (head_bytes h)) ≡ zeros (length j - (head_size + used))
  freed =
      let e : head_size + h.used + length (zeros (used - h.used)) ≡ head_size + used = rw length-replicate (omega arith) in
      rw e (drop-after j 0 (head_bytes h) (rw (head-length h) (omega arith)) (head_size + used) (rw (head-length h) (omega arith)) ∙ zero-true (drop (head_size + used) j) rest ∙ rw length-drop)

  pub cut_steps : j₂ ≡ cut_back j h
  unfolding cut_back overwrite head_bytes
  cut_steps =
      let e : used - h.used + (length j - (head_size + used)) ≡ length j - (head_size + h.used) = omega arith in
      second ∙ ap (λ (l : List ℕ). overwrite l (head_size + h.used) (zeros (used - h.used))) first
      ∙ (λ i. kept i ++ (zeros (used - h.used) ++ freed i))
      ∙ rw (replicate-append-replicate {A = ℕ} (used - h.used) (length j - (head_size + used)) 0, e) (append_assoc (head_bytes h) (part j head_size h.used) (zeros (length j - (head_size + h.used))))

-- a take-back of a sound card: what it starts from, and its steps
module _ (c : Card) (sound : sound_card c ≡ true) {h : Head} (own : h ≡ head_of c.journal) where
  pub take_back-ready : 1 ≤ scripts_on_trial c.journal → (head_size + h.used ≤ length c.journal) × (all_sound c.table (length c.files) (entries_back h.used c.journal h.used) ≡ true) × (1 ≤ marks (entries_back h.used c.journal h.used))
  unfolding entries_of
  take_back-ready some = let p = card_parts c sound in rw own (used-inside c.table c.files c.journal p, p.sound, rw p.marked some)

  pub take_back_steps : {t' f' j₁ j₂ : List ℕ} {u : ℕ} → lent t' f' c.journal ≡ restore (since_mark (entries_back h.used c.journal h.used)) c → u ≡ bytes_taken (behind_mark (entries_back h.used c.journal h.used)) → u ≤ h.used → j₁ ≡ overwrite c.journal 0 (bytes2 u ++ ((h.scripts - 1) ∷ 0 ∷ [])) → j₂ ≡ overwrite j₁ (head_size + u) (zeros (h.used - u)) → lent t' f' j₂ ≡ taken_back c
  unfolding taken_back with_journal entries_of
  take_back_steps {j₂ = j₂} {u = u} r b less first second =
      let p = card_parts c sound in
      let us = own_used c.journal own in
      let ss = own_scripts c.journal own in
      let cut : j₂ ≡ cut_back c.journal (head u (h.scripts - 1) 0) = cut_steps c.journal (head u (h.scripts - 1) 0) h.used less (rw us (used-inside c.table c.files c.journal p)) (rw us p.rest) first second in
      rw (← us, ← ss, ← b) (λ i. with_journal (r i) (cut i))

-- a confirmation's steps
pub confirm_steps : (j : List ℕ) {h : Head} {j₁ j₂ : List ℕ} → h ≡ head_of j → head_size + used_bytes j ≤ length j → all_zero (drop (head_size + used_bytes j) j) ≡ true → j₁ ≡ overwrite j 0 (bytes2 0 ++ (0 ∷ 0 ∷ [])) → j₂ ≡ overwrite j₁ head_size (zeros h.used) → j₂ ≡ zeros (length j)
confirm_steps j {h} own fits rest first second =
    let us = own_used j own in
    let e : h.used - 0 ≡ h.used = omega arith in
    cut_steps j (head 0 0 0) h.used (omega arith) (rw us fits) (rw us rest) first (rw e second) ∙ cut_whole j (omega arith)

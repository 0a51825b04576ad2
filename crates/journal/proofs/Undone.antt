-- What a take-back undoes: one write, a list of writes, a mark, and a run. Assumes nothing.
use mathlib.Core.Path.{◌≡◌, refl, ap, ◌∙◌}
use mathlib.Core.Bool.{true}
use mathlib.Core.List.{List, [], ◌∷◌, ◌++◌}
use Prim.Native.Nat.{ℕ, ◌+◌, ◌-◌}
use native.Mathlib.Omega.{arith}
use lib.ListN.{length}
use Rattle.octets.specs.Choice.{pick}
use Rattle.octets.specs.Bytes.{part, zeros}
use Rattle.card.specs.Row.{Card}
use Rattle.journal.specs.declared.Head.{Head}
use Rattle.journal.specs.Entries.{Entry, head_size, head, head_bytes, used_bytes, scripts_on_trial, entry_bytes, mark, entries_of}
use Rattle.journal.specs.Promised.{HasRoom}
use Rattle.journal.specs.Sound.{sound_card}
use Rattle.journal.specs.Changes.{Write, with_journal, marked, with_mark, entry_for, write, perform, cost, memory_for, restore_one, restore, since_mark, behind_mark, bytes_taken, cut_back, taken_back}
use Rattle.journal.proofs.Entries.{part_same}
use Rattle.journal.proofs.Memories.{memory_beside, put, put_beside, entry_no_mark, restore-write}
use Rattle.journal.proofs.Pushed.{marked-grown}
use Rattle.journal.proofs.Parts.{card_parts}
use Rattle.journal.proofs.Encoded.{sound_cut}
use Rattle.journal.proofs.Behind.{since_other, behind_other, behind_less}
use Rattle.journal.proofs.Written.{Writable, sound_writable, mark_writable, Fits, AllFit, fit_kept, write-grown, perform-same}

-- giving back does not look at the journal
restore_beside : (es : List Entry) (c : Card) (j : List ℕ) → restore es (with_journal c j) ≡ with_journal (restore es c) j
unfolding restore restore_one put
restore_beside [] c j = refl
restore_beside (e ∷ es) c j =
    ap (restore es) (put_beside (memory_for e) e.place e.old c j) ∙ restore_beside es (restore_one e c) j

-- a card's take-back, told by its entries and its scripts on trial
taken_by : (c : Card) (es : List Entry) (s : ℕ) → entries_of c.journal ≡ es → scripts_on_trial c.journal ≡ s → taken_back c ≡ with_journal (restore (since_mark es) c) (cut_back c.journal (head (bytes_taken (behind_mark es)) (s - 1) 0))
unfolding taken_back
taken_by c es s e f = rw (e, f)

-- a journal cut back depends on no other bytes than those left
cut_same : (j k : List ℕ) (h : Head) → length j ≡ length k → part j head_size h.used ≡ part k head_size h.used → cut_back j h ≡ cut_back k h
unfolding cut_back
cut_same j k h l e = λ i. head_bytes h ++ (e i ++ zeros (l i - (head_size + h.used)))

-- a write
pub back_write : (w : Write) (c : Card) → Fits w c → Writable c → HasRoom c.journal (entry_bytes (length w.new)) → taken_back (write w c) ≡ taken_back c
unfolding with_journal taken_back restore
back_write w c fits ok left =
    let e = entry_for w c in
    let es = entries_of c.journal in
    let j = (write w c).journal in
    let s = scripts_on_trial c.journal in
    let b = bytes_taken (behind_mark es) in
    let g = write-grown w c fits ok left in
    let l = behind_less es in
    let x = ok.exact in
    let other = entry_no_mark w c in
    let k = part_same j c.journal (used_bytes c.journal) g.kept 0 b (omega arith) in
    taken_by (write w c) (e ∷ es) s g.entries g.scripts
    ∙ (λ i. with_journal (restore (since_other e es other i) (write w c)) (cut_back j (head (bytes_taken (behind_other e es other i)) (s - 1) 0)))
    ∙ (λ i. with_journal (restore (since_mark es) (restore-write w c fits i)) (cut_back j (head b (s - 1) 0)))
    ∙ (λ i. with_journal (restore_beside (since_mark es) c j i) (cut_same j c.journal (head b (s - 1) 0) g.size k i))

-- a list of writes
pub back_perform : (ws : List Write) (c : Card) → AllFit ws c → Writable c → HasRoom c.journal (cost ws) → taken_back (perform ws c) ≡ taken_back c
back_perform = perform-same taken_back back_write

-- a mark
pub back_mark : (c : Card) → sound_card c ≡ true → HasRoom c.journal (entry_bytes 0) → taken_back (with_mark c) ≡ c
unfolding with_journal restore since_mark behind_mark pick mark
back_mark c sound left =
    let ok = sound_writable c sound in
    let k = marked c.journal in
    let s = scripts_on_trial c.journal in
    let g = marked-grown c.journal left ok.short in
    let one : s + 1 - 1 ≡ s = omega arith in
    taken_by (with_journal c k) (mark ∷ entries_of c.journal) (s + 1) g.entries g.scripts
    ∙ (λ i. with_journal c (cut_back k (head (ok.exact i) (one i) 0)))
    ∙ (λ i. with_journal c (cut_same k c.journal (head (used_bytes c.journal) s 0) g.size g.kept i))
    ∙ (λ i. with_journal c (sound_cut c.table c.files c.journal (card_parts c sound) i))

-- a run: a mark, and then writes
pub back_run : (ws : List Write) (c : Card) → sound_card c ≡ true → AllFit ws c → HasRoom c.journal (entry_bytes 0 + cost ws) → taken_back (perform ws (with_mark c)) ≡ c
unfolding with_journal mark
back_run ws c sound fits left =
    let ok = sound_writable c sound in
    let k = marked c.journal in
    let first : HasRoom c.journal (entry_bytes 0) = omega arith in
    let g = marked-grown c.journal first ok.short in
    back_perform ws (with_journal c k) (fit_kept ws c (with_journal c k) (λ m. ap length (memory_beside m c k)) fits) (mark_writable c ok first) (omega arith)
    ∙ back_mark c sound first

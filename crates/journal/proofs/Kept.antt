-- The soundness of a card is kept: by a mark, a write, a list of writes, a take-back and a confirmation.
-- A card is sound where its table is and the parts of its journal hold (`card_parts`, `card-whole`). A mark and a write push one
-- entry (`push_parts`): it must be sound, and the oldest must still be a mark; the entry of a write holds old bytes, which are of a
-- sound form where the new ones are. A take-back and a confirmation cut the journal back to some of its entries (`cut_parts`). The
-- table stays sound by `Forms`, and its rows stay alike, so the entries are sound beside it as before. A list of writes goes by
-- induction. Assumes nothing.
use mathlib.Core.Path.{◌≡◌, refl, ◌∙◌}
use mathlib.Core.Bool.{Bool, true}
use mathlib.Core.List.{List, [], ◌∷◌}
use Prim.Native.Nat.{ℕ, ◌+◌, ◌-◌, ◌≤◌, ◌<◌}
use native.Mathlib.Omega.{arith}
use lib.ListN.{length}
use Rattle.octets.specs.Choice.{pick}
use Rattle.octets.specs.Bytes.{byte}
use Rattle.card.specs.Row.{Card}
use Rattle.card.specs.Sound.{sound_table}
use Rattle.journal.specs.Entries.{Entry, scripts_on_trial, entry_bytes, is_mark, mark, entries_of}
use Rattle.journal.specs.Promised.{HasRoom}
use Rattle.journal.specs.Sound.{most_scripts, form_sound, entry_sound, all_sound, last_is_mark, oldest_is_mark, marks, sound_card}
use Rattle.journal.specs.Changes.{Write, with_journal, marked, with_mark, kind_for, entry_for, write, perform, cost, restore, since_mark, behind_mark, bytes_taken, taken_back, confirmed}
use Rattle.journal.proofs.Entries.{none, read_all}
use Rattle.journal.proofs.Memories.{put, after, write_put, write-journal, entry_no_mark}
use Rattle.journal.proofs.Pushed.{mark_fits_lem}
use Rattle.journal.proofs.Parts.{used-inside, card-table, card_parts, card-whole}
use Rattle.journal.proofs.Encoded.{sound_taken}
use Rattle.journal.proofs.Behind.{marks_other, behind-sound, behind_oldest, behind-marks, behind_reading, behind_less}
use Rattle.journal.proofs.Written.{Fits, All, all_so, AllFit, sound_writable, entry-fits, entry_near, old_takes, write_scripts, room-first, room_next}
use Rattle.journal.proofs.Cut.{cut_whole}
use Rattle.journal.proofs.Forms.{Alike, alike_same, alike_both, alike_form, alike_entry, alike_all, put_fits, put_alike, old_form, restore_alike}
use Rattle.journal.proofs.Changed.{push_parts, cut_parts, parts_alike}

-- a mark, and a confirmation
module _ (c : Card) (sound : sound_card c ≡ true) where
  pub mark-sound : HasRoom c.journal (entry_bytes 0) → scripts_on_trial c.journal < most_scripts → sound_card (with_mark c) ≡ true
  unfolding with_journal marked mark entry_sound form_sound pick oldest_is_mark last_is_mark marks
  mark-sound left few =
      let p = card_parts c sound in
      card-whole (with_mark c) (card-table c sound)
      (push_parts c.table c.files c.journal p (scripts_on_trial c.journal + 1) mark (mark_fits_lem c.journal left) (omega arith) (omega arith) refl p.oldest (omega arith))

  pub confirmed-sound : sound_card (confirmed c) ≡ true
  unfolding with_journal confirmed all_sound oldest_is_mark last_is_mark marks
  confirmed-sound =
      let p = card_parts c sound in
      card-whole (confirmed c) (card-table c sound) (rw (cut_whole c.journal (omega (arith, p.size))) at (cut_parts c.table c.files c.journal p 0 0 none (omega arith) (omega arith) refl refl refl))

-- a take-back: the table's rows stay alike, and the card sound
alike_beside : (c d : Card) (j : List ℕ) → Alike c d → Alike c (with_journal d j)
unfolding with_journal
alike_beside c d j a = record { table = a.table; rows = a.rows; files = a.files }

pub taken_alike : (c : Card) → sound_card c ≡ true → Alike c (taken_back c)
unfolding taken_back
taken_alike c sound =
    let es = entries_of c.journal in
    alike_beside c (restore (since_mark es) c) _ (restore_alike es c (card-table c sound) (card_parts c sound).sound)

pub taken_sound : (c : Card) → sound_card c ≡ true → sound_card (taken_back c) ≡ true
unfolding taken_back with_journal oldest_is_mark
taken_sound c sound =
    let p = card_parts c sound in
    let es = entries_of c.journal in
    let d = taken_back c in
    let a = taken_alike c sound in
    let f = used-inside c.table c.files c.journal p in
    let r = behind_reading c.table (length c.files) c.journal (read_all c.journal) f p.sound in
    card-whole d a.table
    (cut_parts d.table d.files c.journal (parts_alike c d a p) (bytes_taken (behind_mark es)) (scripts_on_trial c.journal - 1) r
    (omega (arith, behind_less es, sound_taken c.table c.files c.journal p))
    (omega (arith, p.scripts))
    (alike_all c d a (behind_mark es) ∙ behind-sound c.table (length c.files) es p.sound)
    (behind_oldest true es p.oldest)
    (omega (arith, behind-marks es, p.marked)))

-- bytes of a sound form, for one write and for every one of a list
abbrev pub FormSound : Write → Card → Type 0
FormSound w c =
    form_sound c.table (length c.files) (kind_for w.memory) w.place (length w.new) (byte w.new 0) ≡ true

abbrev pub AllForms : List Write → Card → Type 0
AllForms ws c = All FormSound ws c

pub form_fits : (w : Write) (c : Card) → FormSound w c → Fits w c
form_fits w c form = put_fits c w.place w.new w.memory form

pub forms_fit : (ws : List Write) (c : Card) → AllForms ws c → AllFit ws c
forms_fit ws c = all_so FormSound Fits ws c c (λ w f. form_fits w c f)

forms_kept : (ws : List Write) (c d : Card) → Alike c d → AllForms ws c → AllForms ws d
forms_kept ws c d a = all_so FormSound FormSound ws c d (λ w f. alike_form c d a (kind_for w.memory) w.place (length w.new) (byte w.new 0) ∙ f)

-- under them the table's rows stay alike
write_alike : (w : Write) (c : Card) → sound_table c.table c.files ≡ true → FormSound w c → Alike c (write w c)
write_alike w c sound form =
    rw (write_put w c)
    (alike_beside c (put w.memory w.place w.new c) (after w c) (put_alike c w.place w.new sound w.memory form))

pub perform_alike : (ws : List Write) (c : Card) → sound_table c.table c.files ≡ true → AllForms ws c → Alike c (perform ws c)
unfolding perform
perform_alike [] c sound forms = alike_same c sound
perform_alike (w ∷ ws) c sound forms =
    let a = write_alike w c sound forms.0 in
    alike_both c (write w c) (perform ws (write w c)) a (perform_alike ws (write w c) a.table (forms_kept ws c (write w c) a forms.1))

-- a write: with no mark its entry would be the oldest, and no mark
last-same : (b : Bool) (es : List Entry) → 1 ≤ marks es → last_is_mark b es ≡ oldest_is_mark es
unfolding last_is_mark oldest_is_mark marks
last-same b [] h = absurd (omega arith)
last-same b (e ∷ es) h = refl

module _ (w : Write) (c : Card) (sound : sound_card c ≡ true) (form : FormSound w c) where
  entry_sound_lem : entry_sound c.table (length c.files) (entry_for w c) ≡ true
  unfolding entry_sound entry_for
  entry_sound_lem = rw (old_takes w c (form_fits w c form)) (old_form c w.place w.new (card-table c sound) w.memory form)

  pub write-sound : HasRoom c.journal (entry_bytes (length w.new)) → 1 ≤ scripts_on_trial c.journal → sound_card (write w c) ≡ true
  unfolding oldest_is_mark last_is_mark after
  write-sound left some =
      let p = card_parts c sound in
      let ok = sound_writable c sound in
      let e = entry_for w c in
      let es = entries_of c.journal in
      let d = write w c in
      let a = write_alike w c (card-table c sound) form in
      let fits = form_fits w c form in
      card-whole d a.table
      (rw (write-journal w c)
      (push_parts d.table d.files c.journal (parts_alike c d a p) (scripts_on_trial c.journal) e (entry-fits w c fits ok left) (entry_near w c fits ok left) p.scripts
      (alike_entry c d a e ∙ entry_sound_lem)
      (last-same (is_mark e) es (omega (arith, p.marked)) ∙ p.oldest)
      (marks_other e es (entry_no_mark w c) ∙ p.marked)))

-- a list of writes
pub perform-sound : (ws : List Write) (c : Card) → sound_card c ≡ true → AllForms ws c → HasRoom c.journal (cost ws) → 1 ≤ scripts_on_trial c.journal → sound_card (perform ws c) ≡ true
unfolding perform
perform-sound [] c sound forms left some = sound
perform-sound (w ∷ ws) c sound forms left some =
    let ok = sound_writable c sound in
    let fits = form_fits w c forms.0 in
    let first = room-first w ws c ok left in
    perform-sound ws (write w c) (write-sound w c sound forms.0 first some) (forms_kept ws c (write w c) (write_alike w c (card-table c sound) forms.0) forms.1)
    (room_next w ws c ok left fits)
    (rw (write_scripts w c fits ok first) some)

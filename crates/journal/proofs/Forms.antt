-- A memory that gets bytes of a sound form: they fit, the table stays sound, its rows stay alike, and the same forms stay sound.
-- Bytes of a sound form are a run that lies in file memory, or one table byte that may have that value. The first leaves the table
-- and all lengths as they are; the second keeps the table sound and its rows alike, by the laws of `Table`. So the card after it is
-- `Alike`, and what is asked of forms and entries is the same beside it (`alike_form`, `alike_all`). A sound entry that is no mark
-- holds old bytes of a sound form (`entry_form`), so giving entries back goes by induction, each on the card that the one before
-- left (`restore_alike`). Assumes nothing.
use mathlib.Core.Path.{◌≡◌, refl, ap, ◌∙◌}
use mathlib.Core.Bool.{Bool, true, false, ◌&&◌}
use mathlib.Core.List.{List, [], ◌∷◌}
use mathlib.Core.Logic.{⊎_elim}
use Prim.Native.Nat.{ℕ, ◌+◌, ◌≤◌}
use native.Mathlib.Nat.{add-zero}
use native.Mathlib.Omega.{arith}
use lib.Dec.{leb, eqb}
use lib.ListN.{length}
use borrow.Author.Tests.{leb-true, eqb-true}
use Rattle.octets.specs.Choice.{pick}
use Rattle.octets.specs.Bytes.{byte, part, overwrite}
use Rattle.octets.proofs.Picks.{on_pick, either, and_left, and_right, and_both}
use Rattle.octets.proofs.Writes.{write-length}
use Rattle.octets.proofs.Numbers.{byte-part}
use Rattle.card.specs.Row.{Card}
use Rattle.card.specs.Sound.{sound_table}
use Rattle.card.proofs.Kept.{Rows, rows_same, rows_both, sound-length}
use Rattle.journal.specs.Entries.{Entry, is_mark}
use Rattle.journal.specs.Sound.{table_place_sound, form_sound, entry_sound, all_sound}
use Rattle.journal.specs.declared.Memory.{Memory}
use Rattle.journal.specs.declared.Memory.TheVariants.{Files, Table}
use Rattle.journal.specs.Changes.{memory_of, with_memory, kind_for, memory_for, restore_one, restore, since_mark}
use Rattle.journal.proofs.Memories.{put}
use Rattle.journal.proofs.Table.{form_kept, place-fits, table_rows, table_kept, old-sound}

-- a card with a sound table whose rows are another's but for the two bytes, and a file memory as long
pub record Alike (c d : Card) : Type 0 where
  pub table : sound_table d.table d.files ≡ true
  pub rows : Rows c.table d.table
  pub files : length d.files ≡ length c.files

pub alike_same : (c : Card) → sound_table c.table c.files ≡ true → Alike c c
alike_same c sound = record { table = sound; rows = rows_same c.table; files = refl }

pub alike_both : (c d e : Card) → Alike c d → Alike d e → Alike c e
alike_both c d e a b =
    record { table = b.table; rows = rows_both c.table d.table e.table a.rows b.rows; files = b.files ∙ a.files }

-- beside it the same forms and entries are sound
pub alike_form : (c d : Card) → Alike c d → (kind place n old : ℕ) → form_sound d.table (length d.files) kind place n old ≡ form_sound c.table (length c.files) kind place n old
alike_form c d a kind place n old = rw a.files (form_kept c.table d.table a.rows (length c.files) kind place n old)

pub alike_entry : (c d : Card) → Alike c d → (e : Entry) → entry_sound d.table (length d.files) e ≡ entry_sound c.table (length c.files) e
unfolding entry_sound
alike_entry c d a e = alike_form c d a e.kind e.place (length e.old) (byte e.old 0)

pub alike_all : (c d : Card) → Alike c d → (es : List Entry) → all_sound d.table (length d.files) es ≡ all_sound c.table (length c.files) es
unfolding all_sound
alike_all c d a [] = refl
alike_all c d a (e ∷ es) = λ i. alike_entry c d a e i && alike_all c d a es i

one_byte : (d : List ℕ) → length d ≡ 1 → d ≡ byte d 0 ∷ []
one_byte [] h = absurd (omega arith)
one_byte (b ∷ []) h = refl
one_byte (b ∷ x ∷ d) h = absurd (omega arith)

module _ (c : Card) (place : ℕ) (d : List ℕ) where
  abbrev Sound : Memory → Type 0
  Sound m = form_sound c.table (length c.files) (kind_for m) place (length d) (byte d 0) ≡ true

  one : Sound Table → length d ≡ 1
  unfolding form_sound kind_for pick
  one ok = eqb-true (length d) 1 (and_left _ _ ok)

  at_place : Sound Table → table_place_sound c.table place (byte d 0) ≡ true
  unfolding form_sound kind_for pick
  at_place ok = and_right (eqb (length d) 1) _ ok

  in_files : Sound Files → place + length d ≤ length c.files
  unfolding form_sound kind_for pick
  in_files ok = leb-true (place + length d) (length c.files) (and_right (leb (length d) 255) _ (and_right (leb 1 (length d)) _ ok))

  pub put_fits : (m : Memory) → Sound m → place + length d ≤ length (memory_of m c)
  unfolding memory_of
  put_fits Files ok = in_files ok
  put_fits Table ok =
      let h = place-fits c.table place (byte d 0) (at_place ok) in
      let l = one ok in
      omega arith

  module _ (sound : sound_table c.table c.files ≡ true) where
    pub put_alike : (m : Memory) → Sound m → Alike c (put m place d c)
    unfolding put with_memory memory_of
    put_alike Files ok =
        let l = write-length c.files place d (in_files ok) in
        record {
          table = sound-length c.table (overwrite c.files place d) c.files l ∙ sound;
          rows = rows_same c.table;
          files = l;
        }
    put_alike Table ok =
        let b = one_byte d (one ok) in
        record {
          table = ap (λ (v : List ℕ). sound_table (overwrite c.table place v) c.files) b ∙ table_kept c.table place (byte d 0) (at_place ok) c.files sound;
          rows = rw (← b) at (table_rows c.table place (byte d 0) (at_place ok));
          files = refl;
        }

    -- and the old bytes there are of a sound form too
    pub old_form : (m : Memory) → Sound m → form_sound c.table (length c.files) (kind_for m) place (length d) (byte (part (memory_of m c) place (length d)) 0) ≡ true
    unfolding memory_of form_sound kind_for pick
    old_form Files ok = ok
    old_form Table ok =
        let l = one ok in
        and_both (eqb (length d) 1) _ (and_left _ _ ok)
        (ap (table_place_sound c.table place) (byte-part c.table place (length d) 0 (omega arith) ∙ ap (byte c.table) (add-zero place))
        ∙ old-sound c.table place (byte d 0) (at_place ok) c.files sound)

-- entries given back, the newest first, down to the newest mark
kind_of_lem : (k : ℕ) (x y z : Bool) → eqb k 1 ≡ false → pick (eqb k 1) x (pick (eqb k 2) y (eqb k 3 && z)) ≡ true → kind_for (pick (eqb k 3) Table Files) ≡ k
unfolding kind_for pick
kind_of_lem k x y z other h =
    let rest : pick (eqb k 2) y (eqb k 3 && z) ≡ true = rw other at h in
    ⊎_elim (λ e. rw (eqb-true k 2 e)) (λ e. rw (eqb-true k 3 (and_left (eqb k 3) z (rw e at rest)))) (either (eqb k 2))

module _ (c : Card) (e : Entry) (ok : entry_sound c.table (length c.files) e ≡ true) (other : is_mark e ≡ false) where
  entry-kind : kind_for (memory_for e) ≡ e.kind
  unfolding entry_sound form_sound memory_for
  entry-kind = kind_of_lem e.kind _ _ _ other ok

  entry_form : form_sound c.table (length c.files) (kind_for (memory_for e)) e.place (length e.old) (byte e.old 0) ≡ true
  unfolding entry_sound
  entry_form = ap (λ (k : ℕ). form_sound c.table (length c.files) k e.place (length e.old) (byte e.old 0)) entry-kind ∙ ok

  pub entry-inside : e.place + length e.old ≤ length (memory_of (memory_for e) c)
  entry-inside = put_fits c e.place e.old (memory_for e) entry_form

  restore_one_lem : sound_table c.table c.files ≡ true → Alike c (restore_one e c)
  unfolding restore_one put
  restore_one_lem sound = put_alike c e.place e.old sound (memory_for e) entry_form

pub restore_alike : (es : List Entry) (c : Card) → sound_table c.table c.files ≡ true → all_sound c.table (length c.files) es ≡ true → Alike c (restore (since_mark es) c)
unfolding restore all_sound since_mark
restore_alike [] c sound all = alike_same c sound
restore_alike (e ∷ es) c sound all =
    on_pick (λ (fs : List Entry). Alike c (restore fs c)) (is_mark e) [] (e ∷ since_mark es)
    (λ m. alike_same c sound)
    (λ m. let a = restore_one_lem c e (and_left _ _ all) m sound in
    alike_both c (restore_one e c) (restore (since_mark es) (restore_one e c)) a
    (restore_alike es (restore_one e c) a.table (alike_all c (restore_one e c) a es ∙ and_right (entry_sound c.table (length c.files) e) _ all)))

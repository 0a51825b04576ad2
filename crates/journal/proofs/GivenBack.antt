-- The steps by which entries are given back, over plain variables: the newest one, and on to the newest mark.
-- The loop back to the mark keeps `GoesBack` while the first u bytes of entries are left: their entries are sound, there is a mark
-- among them, and giving them back as far as the newest mark, to the memories as they are now, gives the card that the whole loop
-- is to give. Of sound entries the newest can be read (`newest-readable`). If it is a mark, nothing is left to give back
-- (`mark-card`, `mark-bytes`); else its old bytes go back to the memory that its kind names (`given_back`), and the loop goes on
-- with the bytes before it (`back_goes_on`). No length changes, so each entry still fits. Assumes nothing.
use mathlib.Core.Path.{◌≡◌, refl, sym, ◌∙◌}
use mathlib.Core.Bool.{true, false, ◌&&◌, false≢true}
use mathlib.Core.List.{List, ◌∷◌}
use mathlib.Core.Logic.{⊎_elim}
use Prim.Native.Nat.{ℕ, zero, suc, ◌+◌, ◌-◌, ◌≤◌, ◌<◌}
use native.Mathlib.Nat.{le_refl, add-sub_cancel_left}
use native.Mathlib.Omega.{arith}
use borrow.Author.Tests.{eq-eqb, ne_eqb, eqb-true}
use lib.Dec.{eqb}
use lib.ListN.{length}
use Rattle.octets.specs.Choice.{pick}
use Rattle.octets.specs.Bytes.{part, overwrite}
use Rattle.octets.proofs.Picks.{pick_true, pick-false, either, and_left, and_right}
use Rattle.card.specs.Row.{Card, lent}
use Rattle.journal.specs.declared.Tail.{Tail}
use Rattle.journal.specs.Entries.{Entry, head_size, tail_size, entry_bytes, marks_start, holds_table_byte, is_mark, tail_at, old_place, entry_at, readable, entries_back}
use Rattle.journal.specs.Sound.{form_sound, entry_sound, all_sound, marks}
use Rattle.journal.specs.declared.Memory.{Memory}
use Rattle.journal.specs.declared.Memory.TheVariants.{Files, Table}
use Rattle.journal.specs.Changes.{memory_of, memory_for, with_memory, restore_one, restore, since_mark, behind_mark, bytes_taken}
use Rattle.journal.proofs.Entries.{before, readable-fits, read, back_next}
use Rattle.journal.proofs.Tails.{old-length}
use Rattle.journal.proofs.Memories.{memory-length}
use Rattle.journal.proofs.Encoded.{taken_all}
use Rattle.journal.proofs.Behind.{since_other, behind_other, marks_other}
use Rattle.journal.proofs.Forms.{entry-inside}
use Rattle.journal.proofs.Tested.{stuck_unsound}

-- an entry's old bytes, as the tail that was read tells their place
abbrev pub old_part : List ℕ → ℕ → Tail → List ℕ
old_part j u l = let at : ℕ = head_size + u - entry_bytes l.size in part j at (at + l.size - at)

old-part : (j : List ℕ) (u : ℕ) (l : Tail) → l ≡ tail_at j u → old_part j u l ≡ (entry_at j u).old
unfolding entry_at old_place
old-part j u l e = rw (add-sub_cancel_left (head_size + u - entry_bytes l.size) l.size, e)

-- an entry's old bytes are given back to the memory that they came from
module _ (j : List ℕ) (u : ℕ) {l : Tail} (e : l ≡ tail_at j u) where
  pub from-table : l.kind ≡ holds_table_byte → memory_for (entry_at j u) ≡ Table
  unfolding memory_for entry_at
  from-table k = pick_true (eqb (tail_at j u).kind holds_table_byte) Table Files (eq-eqb (tail_at j u).kind holds_table_byte (rw e at k))

  pub from_files : (l.kind ≡ holds_table_byte → ⊥) → memory_for (entry_at j u) ≡ Files
  unfolding memory_for entry_at
  from_files k = pick-false (eqb (tail_at j u).kind holds_table_byte) Table Files (ne_eqb (tail_at j u).kind holds_table_byte (rw e at k))

  module _ (c : Card) {m : Memory} (from : memory_for (entry_at j u) ≡ m) where
    pub fits_back : (entry_at j u).place + length (entry_at j u).old ≤ length (memory_of (memory_for (entry_at j u)) c) → l.place + length (old_part j u l) ≤ length (memory_of m c)
    unfolding entry_at
    fits_back h = rw (old-part j u l e, e, ← from) h

    pub given_back : {x : List ℕ} → x ≡ overwrite (memory_of m c) l.place (old_part j u l) → with_memory m c x ≡ restore_one (entry_at j u) c
    unfolding entry_at restore_one
    given_back r = rw (r, old-part j u l e, e, ← from)

-- of sound entries the newest is there, and those before it are sound
module _ (t : List ℕ) (files : ℕ) (j : List ℕ) (u : ℕ) (some : 0 < u) (sound : all_sound t files (entries_back u j u) ≡ true) where
  newest-readable : readable j u ≡ true
  newest-readable = ⊎_elim (λ h. h) (λ h. absurd (false≢true (sym (stuck_unsound t files j u some h) ∙ sound))) (either (readable j u))

  newest-first : entries_back u j u ≡ entry_at j u ∷ entries_back (before j u) j (before j u)
  newest-first = back_next j u newest-readable

  newest_parts : (entry_sound t files (entry_at j u) && all_sound t files (entries_back (before j u) j (before j u))) ≡ true
  unfolding all_sound
  newest_parts = rw newest-first at sound

  newest_sound_lem : entry_sound t files (entry_at j u) ≡ true
  newest_sound_lem = and_left (entry_sound t files (entry_at j u)) (all_sound t files (entries_back (before j u) j (before j u))) newest_parts

  older_sound : all_sound t files (entries_back (before j u) j (before j u)) ≡ true
  older_sound = and_right (entry_sound t files (entry_at j u)) (all_sound t files (entries_back (before j u) j (before j u))) newest_parts

some-marks : (j : List ℕ) (u : ℕ) → 1 ≤ marks (entries_back u j u) → 0 < u
unfolding entries_back marks
some-marks j zero h = h
some-marks j (suc u) h = omega arith

-- back to the newest mark: what is left to give back, of the first u bytes, is the whole of it
pub record GoesBack (t₀ f₀ j : List ℕ) (used : ℕ) (t f : List ℕ) (u : ℕ) : Type 0 where
  pub inside : u ≤ used
  pub same-table : length t ≡ length t₀
  pub same-files : length f ≡ length f₀
  pub sound : all_sound t₀ (length f₀) (entries_back u j u) ≡ true
  pub marked : 1 ≤ marks (entries_back u j u)
  pub card : restore (since_mark (entries_back u j u)) (lent t f j) ≡ restore (since_mark (entries_back used j used)) (lent t₀ f₀ j)
  pub bytes : bytes_taken (behind_mark (entries_back u j u)) ≡ bytes_taken (behind_mark (entries_back used j used))

pub back_starts : (t f j : List ℕ) (used : ℕ) → all_sound t (length f) (entries_back used j used) ≡ true → 1 ≤ marks (entries_back used j used) → GoesBack t f j used t f used
back_starts t f j used h g =
    record { inside = omega arith; same-table = refl; same-files = refl; sound = h; marked = g; card = refl; bytes = refl }

module _ {t₀ f₀ j : List ℕ} {used : ℕ} {t f : List ℕ} {u : ℕ} (g : GoesBack t₀ f₀ j used t f u) (fits : head_size + used ≤ length j) where
  any : 0 < u
  any = some-marks j u g.marked

  pub back_readable : readable j u ≡ true
  back_readable = newest-readable t₀ (length f₀) j u any g.sound

  pub back_long : tail_size ≤ u
  back_long = omega (arith, readable-fits j u refl back_readable)

  back_sound : entry_sound t₀ (length f₀) (entry_at j u) ≡ true
  back_sound = newest_sound_lem t₀ (length f₀) j u any g.sound

  module _ (k : (tail_at j u).kind ≡ marks_start) where
    mark_empty : (tail_at j u).size ≡ 0
    unfolding entry_sound form_sound entry_at pick
    mark_empty =
        let e : Entry = entry_at j u in
        let h : (eqb e.place 0 && eqb (length e.old) 0) ≡ true = rw k at back_sound in
        sym (old-length j u back_readable (omega arith)) ∙ eqb-true (length e.old) 0 (and_right (eqb e.place 0) (eqb (length e.old) 0) h)

    pub mark-card : lent t f j ≡ restore (since_mark (entries_back used j used)) (lent t₀ f₀ j)
    unfolding since_mark restore pick entry_at
    mark-card = rw (newest-first t₀ (length f₀) j u any g.sound, eq-eqb (tail_at j u).kind marks_start k) at g.card

    pub mark-bytes : u - tail_size ≡ bytes_taken (behind_mark (entries_back used j used))
    unfolding behind_mark pick entry_at
    mark-bytes =
        let v : ℕ = before j u in
        let e : u - tail_size ≡ v = omega (arith, mark_empty) in
        let h : bytes_taken (entries_back v j v) ≡ v = taken_all t₀ (length f₀) j (read v j v (le_refl v)) (omega arith) (older_sound t₀ (length f₀) j u any g.sound) in
        e ∙ sym h ∙ (rw (newest-first t₀ (length f₀) j u any g.sound, eq-eqb (tail_at j u).kind marks_start k) at g.bytes)

  module _ {l : Tail} (e : l ≡ tail_at j u) (k : l.kind ≡ marks_start → ⊥) where
    other : is_mark (entry_at j u) ≡ false
    unfolding entry_at
    other = ne_eqb (tail_at j u).kind marks_start (rw e at k)

    pub back_inside : (entry_at j u).place + length (entry_at j u).old ≤ length (memory_of (memory_for (entry_at j u)) (lent t f j))
    back_inside =
        rw (memory-length (memory_for (entry_at j u)) (lent t f j) (lent t₀ f₀ j) g.same-table g.same-files) (entry-inside (lent t₀ f₀ j) (entry_at j u) back_sound other)

    pub back_goes_on : {t' f' : List ℕ} → length t' ≡ length t → length f' ≡ length f → lent t' f' j ≡ restore_one (entry_at j u) (lent t f j) → GoesBack t₀ f₀ j used t' f' (u - entry_bytes l.size)
    unfolding restore
    back_goes_on lt lf r =
        let es : List Entry = entries_back (before j u) j (before j u) in
        let s : entries_back u j u ≡ entry_at j u ∷ es = newest-first t₀ (length f₀) j u any g.sound in
        rw e (record {
          inside = omega arith;
          same-table = lt ∙ g.same-table;
          same-files = lf ∙ g.same-files;
          sound = older_sound t₀ (length f₀) j u any g.sound;
          marked = rw (s, marks_other (entry_at j u) es other) at g.marked;
          card = rw r (rw (s, since_other (entry_at j u) es other) at g.card);
          bytes = rw (s, behind_other (entry_at j u) es other) at g.bytes;
        })

-- A table byte that gets a value sound there: the table stays sound, its rows stay alike, and with them what an entry may be.
-- A table byte that a journal entry may hold is one of two (`SoundByte`): the state of a file, or the newest place of a cyclic
-- file. A place is split into an entry and a byte of it, so that each case is one law of the card's `Kept` (`state-kept`,
-- `newest-kept`). The test of such a byte does not look at what these two bytes of the row hold (`blind`), so it says the same
-- beside a table whose rows are alike (`form_kept`). The value that stood there is sound because the table is (`old-sound`).
-- Assumes nothing.
use mathlib.Core.Path.{◌≡◌, refl, sym, ap, ◌∙◌}
use mathlib.Core.Bool.{true, ◌&&◌}
use mathlib.Core.List.{List, [], ◌∷◌}
use mathlib.Core.Logic.{⊎_elim}
use Prim.Native.Nat.{ℕ, ◌+◌, ◌*◌, ◌/◌, ◌%◌, ◌≤◌, ◌<◌}
use native.Mathlib.Omega.{arith}
use lib.Dec.{ltb, eqb}
use lib.ListN.{length}
use borrow.Author.Tests.{ltb-true, eqb-true}
use Rattle.octets.specs.Choice.{pick}
use Rattle.octets.specs.Bytes.{byte, overwrite}
use Rattle.octets.proofs.Picks.{either, and_left, and_right, and_both}
use Rattle.octets.proofs.Numbers.{byte-part}
use Rattle.card.specs.declared.Row.{Row}
use Rattle.card.specs.Row.{entries, entry, row, row_of, is_cyclic, is_file}
use Rattle.card.specs.Sound.{newest_sound, state_sound, sound_table}
use Rattle.card.proofs.Promises.{cyclic-records, records-file, file-state, file-newest, entry_own}
use Rattle.card.proofs.Kept.{with_bytes, Rows, test_kept, changed_rows, newest-kept, state-kept}
use Rattle.journal.specs.Sound.{table_byte_sound, table_place_sound, form_sound}

-- what a table byte may be: the state of a file, or the newest record of a cyclic file
data SoundByte (r : Row) (at v : ℕ) : Type 0 where
  as_state : at ≡ 10 → is_file r ≡ true → state_sound v ≡ true → SoundByte r at v
  as_newest : at ≡ 9 → is_file r ≡ true → is_cyclic r ≡ true → newest_sound r v ≡ true → SoundByte r at v

module _ (r : Row) (at v : ℕ) where
  told : table_byte_sound r at v ≡ true → SoundByte r at v
  unfolding table_byte_sound pick
  told h =
      ⊎_elim
      (λ e. let k : (is_file r && state_sound v) ≡ true = rw e at h in
      as_state (eqb-true at 10 e) (and_left _ _ k) (and_right (is_file r) _ k))
      (λ e. let k : (eqb at 9 && (is_cyclic r && newest_sound r v)) ≡ true = rw e at h in
      let m = and_right (eqb at 9) _ k in
      as_newest (eqb-true at 9 (and_left _ _ k)) (records-file r (cyclic-records r (and_left _ _ m))) (and_left _ _ m) (and_right (is_cyclic r) _ m))
      (either (eqb at 10))

  state-told : at ≡ 10 → is_file r ≡ true → state_sound v ≡ true → table_byte_sound r at v ≡ true
  unfolding table_byte_sound pick
  state-told e f g = rw (e, f, g)

  newest-told : at ≡ 9 → is_cyclic r ≡ true → newest_sound r v ≡ true → table_byte_sound r at v ≡ true
  unfolding table_byte_sound pick
  newest-told e f g = rw (e, f, g)

  blind : (n s : ℕ) → table_byte_sound (with_bytes r n s) at v ≡ table_byte_sound r at v
  unfolding table_byte_sound newest_sound
  blind n s = refl

-- beside tables whose rows are alike the same forms are sound
module _ (t u : List ℕ) (rows : Rows t u) where
  place_kept : (p old : ℕ) → table_place_sound u p old ≡ table_place_sound t p old
  unfolding table_place_sound
  place_kept p old =
      λ i. ltb (p / 16) (rows.same_entries i) && test_kept t u rows (λ (r : Row). table_byte_sound r (p % 16) old) (λ r. blind r (p % 16) old) (p / 16) i

  pub form_kept : (files kind p n old : ℕ) → form_sound u files kind p n old ≡ form_sound t files kind p n old
  unfolding form_sound
  form_kept files kind p n old = rw (place_kept p old)

-- a place of the table, and a value that is sound there
module _ (t : List ℕ) (place v : ℕ) (ok : table_place_sound t place v ≡ true) where
  inside : place / 16 < entries t
  unfolding table_place_sound
  inside = ltb-true (place / 16) (entries t) (and_left _ _ ok)

  byte-told : SoundByte (row_of t (place / 16)) (place % 16) v
  unfolding table_place_sound
  byte-told = told (row_of t (place / 16)) (place % 16) v (and_right (ltb (place / 16) (entries t)) _ ok)

  bounds : (9 ≤ place % 16) × (place % 16 ≤ 10)
  bounds = elim byte-told [ as_state e f s ↦ omega arith | as_newest e f c s ↦ omega arith ]

  pub place-fits : place < length t
  place-fits = let h = inside in omega arith

  here : (k : ℕ) → place % 16 ≡ k → overwrite t (16 * (place / 16) + k) (v ∷ []) ≡ overwrite t place (v ∷ [])
  here k e = let q : 16 * (place / 16) + k ≡ place = omega arith in rw q

  pub table_rows : Rows t (overwrite t place (v ∷ []))
  table_rows = rw (here (place % 16) refl) at (changed_rows t (place / 16) (place % 16) v inside bounds.0 bounds.1)

  module _ (files : List ℕ) (sound : sound_table t files ≡ true) where
    pub table_kept : sound_table (overwrite t place (v ∷ [])) files ≡ true
    table_kept =
        elim byte-told [
          | as_state e f s ↦ rw (here 10 e) at (state-kept t (place / 16) v inside files sound f s)
          | as_newest e f c s ↦ rw (here 9 e) at (newest-kept t (place / 16) v inside files sound f s)
        ]

    -- and the old value there is sound too
    byte_there : (k : ℕ) → place % 16 ≡ k → byte (entry t (place / 16)) k ≡ byte t place
    unfolding entry
    byte_there k e =
        let q : 16 * (place / 16) + k ≡ place = omega arith in
        byte-part t (16 * (place / 16)) 16 k (omega arith) ∙ ap (byte t) q

    old-byte : table_byte_sound (row_of t (place / 16)) (place % 16) (byte t place) ≡ true
    unfolding row_of row
    old-byte =
        let r = row_of t (place / 16) in
        let own = entry_own t files sound (place / 16) inside in
        elim byte-told [
          | as_state e f s ↦ state-told r (place % 16) (byte t place) e f (ap (λ (b : ℕ). state_sound b) (sym (byte_there 10 e)) ∙ file-state (length files) r own f)
          | as_newest e f c s ↦ newest-told r (place % 16) (byte t place) e c (ap (newest_sound r) (sym (byte_there 9 e)) ∙ file-newest (length files) r own f)
        ]

    pub old-sound : table_place_sound t place (byte t place) ≡ true
    unfolding table_place_sound
    old-sound = and_both (ltb (place / 16) (entries t)) _ (and_left _ _ ok) old-byte

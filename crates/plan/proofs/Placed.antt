-- The writes of a command on its file are of a sound form where they go, and go into bytes of that file: at an offset, at a record, at the
-- oldest place, and at the state; and its records lie in the file.
-- An entry of a sound table is sound by itself: its file lies in the file memory, and a record file has whole records. So an offset with
-- its bytes, or a record, inside the file is inside the file memory, and bytes 9 and 10 of the entry are inside the table; what is written
-- there is a value that the table's soundness allows. Assumes nothing.
use mathlib.Core.Path.{◌≡◌}
use mathlib.Core.Bool.{true}
use mathlib.Core.List.{List, [], ◌∷◌}
use Prim.Native.Nat.{ℕ, ◌+◌, ◌*◌, ◌/◌, ◌%◌, ◌≤◌, ◌<◌}
use native.Mathlib.Omega.{arith}
use lib.ListN.{length}
use borrow.Author.Tests.{le-leb, lt-ltb}
use Rattle.octets.specs.Choice.{pick}
use Rattle.octets.proofs.Picks.{and_both}
use Rattle.card.specs.declared.Row.{Row}
use Rattle.card.specs.Row.{Card, entries, row_of, is_file, is_cyclic, has_records, place_of_state}
use Rattle.card.specs.Sound.{record_count, newest_sound, state_sound, own_sound, sound_table}
use Rattle.card.specs.Records.{record_place, record_offset, oldest_place}
use Rattle.card.proofs.Promises.{records-file, file-inside, record_some, record_short, records-some, entry_own}
use Rattle.card.proofs.Places.{place_below, place_inside, offset_inside}
use Rattle.journal.specs.Sound.{table_byte_sound, table_place_sound, form_sound}
use Rattle.journal.specs.declared.Memory.TheVariants.{Table}
use Rattle.journal.specs.Changes.{Write, kind_for}
use Rattle.journal.proofs.Written.{All, all_so}
use Rattle.journal.proofs.Kept.{FormSound, AllForms}
use Rattle.session.specs.Good.{Belongs}
use Rattle.plan.specs.Files.{file_at, write_in, new_record}
use Rattle.plan.proofs.Own.{Own, AllOwn}

-- a write of a sound form, into bytes of an entry that belongs to a root
abbrev pub Sits : ℕ → Write → Card → Type 0
Sits root w c = FormSound w c × Own root w c

pub sit_forms : (root : ℕ) (ws : List Write) (c : Card) → All (Sits root) ws c → AllForms ws c
sit_forms root ws c = all_so (Sits root) FormSound ws c c (λ w h. h.0)

pub sit_own : (root : ℕ) (ws : List Write) (c : Card) → All (Sits root) ws c → AllOwn root ws c
sit_own root ws c = all_so (Sits root) (Own root) ws c c (λ w h. h.1)

newest_byte_lem : (r : Row) (v : ℕ) → is_cyclic r ≡ true → 1 ≤ r.record_length → v < record_count r → table_byte_sound r 9 v ≡ true
unfolding table_byte_sound newest_sound pick
newest_byte_lem r v cyclic some below = rw (cyclic, le-leb 1 r.record_length some) (lt-ltb v (record_count r) below)

module _ (card : Card) (sound : sound_table card.table card.files ≡ true) (root e : ℕ) (b : Belongs card.table root e) where
  abbrev r : Row
  r = row_of card.table e

  here : e < entries card.table
  here = b.inside

  own : own_sound (length card.files) r ≡ true
  own = entry_own card.table card.files sound e here

  -- bytes in the file
  pub in_file_lem : is_file r ≡ true → (offset : ℕ) (new : List ℕ) → 1 ≤ length new → length new ≤ 255 → offset + length new ≤ r.size → Sits root (write_in (file_at card e) offset new) card
  unfolding write_in file_at kind_for form_sound pick
  in_file_lem file offset new some few fits =
      let inside = file-inside (length card.files) r own file in (
        and_both _ _ (le-leb 1 (length new) some)
            (and_both _ _ (le-leb (length new) 255 few) (le-leb (r.start + offset + length new) (length card.files) (omega arith))),
        record { owner = e; belongs = b; least = omega arith; most = omega arith },
      )

  -- a byte of its entry
  in_entry : (k v : ℕ) → k < 16 → table_byte_sound r k v ≡ true → table_place_sound card.table (16 * e + k) v ≡ true
  unfolding table_place_sound
  in_entry k v small ok =
      let q : (16 * e + k) / 16 ≡ e = omega arith in
      let m : (16 * e + k) % 16 ≡ k = omega arith in
      rw (q, m) (and_both _ _ (lt-ltb e (entries card.table) here) ok)

  own_byte : (k v : ℕ) → k < 16 → Own root (record { memory = Table; place = 16 * e + k; new = v ∷ [] }) card
  own_byte k v small = record { owner = e; belongs = b; least = omega arith; most = omega arith }

  pub in_state : is_file r ≡ true → (v : ℕ) → state_sound v ≡ true → Sits root (record { memory = Table; place = place_of_state e; new = v ∷ [] }) card
  unfolding kind_for form_sound table_byte_sound pick
  in_state file v ok = (in_entry 10 v (omega arith) (and_both _ _ file ok), own_byte 10 v (omega arith))

  -- a record of the file
  module _ (has : has_records r ≡ true) where
    below : (k : ℕ) → record_place r k < record_count r
    unfolding record_place
    below k = place_below (record_count r) r.newest k (records-some (length card.files) r own has)

    pub record_inside : (k : ℕ) → record_offset r k + r.record_length ≤ r.size
    record_inside = offset_inside r (records-some (length card.files) r own has)

    -- one that is written, and a new one with the place that becomes newest
    module _ (new : List ℕ) (fits : length new ≡ r.record_length) where
      at_place : (p : ℕ) → p < record_count r → Sits root (write_in (file_at card e) (r.record_length * p) new) card
      at_place p l =
          let some = record_some (length card.files) r own has in
          let short = record_short (length card.files) r own has in
          in_file_lem (records-file r has) (r.record_length * p) new (omega arith) (omega arith) (rw fits (place_inside r p l))

      pub in_record : (k : ℕ) → Sits root (write_in (file_at card e) (record_offset r k) new) card
      unfolding record_offset
      in_record k = at_place (record_place r k) (below k)

      pub in_newest : is_cyclic r ≡ true → All (Sits root) (new_record (file_at card e) new) card
      unfolding new_record file_at oldest_place kind_for form_sound pick
      in_newest cyclic = (
        at_place (oldest_place r) (below (record_count r)),
        (
          (
            in_entry 9 (oldest_place r) (omega arith)
                (newest_byte_lem r (oldest_place r) cyclic (record_some (length card.files) r own has) (below (record_count r))),
            own_byte 9 (oldest_place r) (omega arith),
          ),
          tt,
        ),
      )

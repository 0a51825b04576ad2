-- Soundness is kept when the byte of an entry's newest record, or of its state, gets a value that is sound there; and it knows file
-- memory by its length alone.
-- Tables are compared by `Rows`: their rows are the same but for these two bytes. The rules of where an entry stands and those of
-- pairs do not look at the two bytes (`stands_same`, `pair_same`), so such a table is sound where each of its rows is sound by
-- itself (`rows_sound`). A new byte 9 or 10 of entry e changes no other row (`row_other`) and no other field of its own
-- (`row_here`), so the own rules of that row are all that is left to show (`own_kept`). Assumes nothing.
use mathlib.Core.Path.{◌≡◌, refl, sym, ap, ◌∙◌}
use mathlib.Core.Bool.{Bool, true, ◌&&◌}
use mathlib.Core.List.{List, [], ◌∷◌}
use Prim.Native.Nat.{ℕ, ◌+◌, ◌*◌, ◌≤◌, ◌<◌}
use native.Mathlib.Nat.{add-zero}
use native.Mathlib.Decide.{dec_lt, ℕ_discrete}
use native.Mathlib.Omega.{arith}
use lib.Dec.{eqb}
use lib.ListN.{length}
use borrow.Author.Tests.{le-leb, lt-ltb}
use Rattle.octets.specs.Choice.{pick}
use Rattle.octets.specs.Bytes.{byte, num_at, overwrite}
use Rattle.octets.proofs.Picks.{pick-false, and_left, and_right, and_both, all_at, all_intro}
use Rattle.octets.proofs.Writes.{write-length, part-before, part-after, byte-before, byte-after, byte_inside}
use Rattle.octets.proofs.Numbers.{byte-part}
use Rattle.card.specs.declared.Row.{Row}
use Rattle.card.specs.Row.{entries, entry, row, row_of, is_directory, is_file, place_of_newest, place_of_state}
use Rattle.card.specs.Sound.{root_sound, place_sound, name_sound, newest_sound, state_sound, records_sound, file_sound, zeros_sound, own_sound, entry_sound, pair_sound, entries_sound, pairs_sound, sound_by, lengths_sound, sound_table}
use Rattle.card.proofs.Promises.{file_no_directory, file-size, file-inside, file-records, file-newest, file-state, file-never, entry_own}

-- a row with another place of the newest record and another state
abbrev pub with_bytes : Row → ℕ → ℕ → Row
with_bytes r newest state =
    record {
      identifier = r.identifier;
      parent = r.parent;
      kind = r.kind;
      start = r.start;
      size = r.size;
      record_length = r.record_length;
      newest = newest;
      state = state;
      eleven = r.eleven;
      never = r.never;
      thirteen = r.thirteen;
      fifteen = r.fifteen;
    }

-- tables whose rows are the same but for the two bytes
pub record Rows (t u : List ℕ) : Type 0 where
  pub same_entries : entries u ≡ entries t
  pub alike : (d : ℕ) → row_of u d ≡ with_bytes (row_of t d) (row_of u d).newest (row_of u d).state

pub rows_same : (t : List ℕ) → Rows t t
rows_same t = record { same_entries = refl; alike = λ d. refl }

pub rows_both : (t u v : List ℕ) → Rows t u → Rows u v → Rows t v
rows_both t u v a b =
    record {
      same_entries = b.same_entries ∙ a.same_entries;
      alike = λ d. b.alike d ∙ ap (λ (r : Row). with_bytes r (row_of v d).newest (row_of v d).state) (a.alike d);
    }

-- a test that does not look at the two bytes says the same of every row
pub test_kept : (t u : List ℕ) → Rows t u → {A : Type 0} (test : Row → A) → ((r : Row) (n s : ℕ) → test (with_bytes r n s) ≡ test r) → (d : ℕ) → test (row_of u d) ≡ test (row_of t d)
test_kept t u rows test blind d = ap test (rows.alike d) ∙ blind (row_of t d) _ _

own_kept : (files : ℕ) (r : Row) (n s : ℕ) → own_sound files r ≡ true → is_file r ≡ true → newest_sound r n ≡ true → state_sound s ≡ true → own_sound files (with_bytes r n s) ≡ true
unfolding own_sound file_sound newest_sound records_sound
own_kept files r n s own file new state =
    and_both (zeros_sound r) _ (and_left _ _ own)
    (pick-false (is_directory r) _ (file_sound files (with_bytes r n s)) (file_no_directory r file)
    ∙ rw (le-leb 1 r.size (file-size files r own file), le-leb (r.start + r.size) files (file-inside files r own file), file-records files r own file, new, state, lt-ltb r.never 32 (file-never files r own file)))

-- the rules of where an entry stands, and those of pairs, do not look at the two bytes
abbrev stands : ℕ → Row → Row → Bool
stands e p r = pick (eqb e 0) (root_sound r) (place_sound e p r && name_sound r)

stands_same : (e : ℕ) (p r : Row) (a b n s : ℕ) → stands e (with_bytes p a b) (with_bytes r n s) ≡ stands e p r
unfolding name_sound
stands_same e p r a b n s = refl

pair_same : (a b : Row) (n s m u : ℕ) → pair_sound (with_bytes a n s) (with_bytes b m u) ≡ pair_sound a b
unfolding pair_sound
pair_same a b n s m u = refl

-- so a table of such rows is sound where each of them is by itself
module _ (t u : List ℕ) (rows : Rows t u) where
  stands-kept : (k : ℕ) → stands k (row_of u (row_of u k).parent) (row_of u k) ≡ stands k (row_of t (row_of t k).parent) (row_of t k)
  stands-kept k =
      (λ i. stands k (rows.alike (rows.alike k i).parent i) (rows.alike k i))
      ∙ stands_same k (row_of t (row_of t k).parent) (row_of t k) (row_of u (row_of t k).parent).newest (row_of u (row_of t k).parent).state (row_of u k).newest (row_of u k).state

  rows_sound : (files : List ℕ) → ((d : ℕ) → d < entries t → own_sound (length files) (row_of u d) ≡ true) → length u ≡ length t → sound_table t files ≡ true → sound_table u files ≡ true
  unfolding sound_table sound_by entries_sound entry_sound pairs_sound
  rows_sound files own size sound =
      let n = entries t in
      let both = and_right (lengths_sound (length t) (length files)) _ sound in
      let one = and_left (entries_sound n (length files) (row_of t)) _ both in
      let two = and_right (entries_sound n (length files) (row_of t)) _ both in
      rw size
      (and_both (lengths_sound (length t) (length files)) (sound_by n (length files) (row_of u)) (and_left _ _ sound)
      (and_both (entries_sound n (length files) (row_of u)) (pairs_sound n (row_of u))
      (all_intro n _ (λ k l. and_both (own_sound (length files) (row_of u k)) _ (own k l) (stands-kept k ∙ and_right (own_sound (length files) (row_of t k)) _ (all_at n k _ one l))))
      (all_intro n _ (λ e l. all_intro e _ (λ d m. (λ i. pair_sound (rows.alike d i) (rows.alike e i)) ∙ pair_same (row_of t d) (row_of t e) _ _ _ _ ∙ all_at e d _ (all_at n e _ two l) m)))))

-- the k-th byte of an entry gets a value
abbrev changed : List ℕ → ℕ → ℕ → ℕ → List ℕ
changed t e k v = overwrite t (16 * e + k) (v ∷ [])

module _ (t : List ℕ) (e k v : ℕ) (here : e < entries t) (inside : k < 16) where
  fits : 16 * e + k + length (v ∷ []) ≤ length t
  fits = omega arith

  changed_length : length (changed t e k v) ≡ length t
  changed_length = write-length t (16 * e + k) (v ∷ []) fits

  changed_entries : entries (changed t e k v) ≡ entries t
  changed_entries = rw changed_length

  row_other : (d : ℕ) → (d ≡ e → ⊥) → row_of (changed t e k v) d ≡ row_of t d
  unfolding row_of entry
  row_other d z =
      ap row
      elim (dec_lt d e) [ yes l ↦ part-before t (16 * e + k) (v ∷ []) fits (16 * d) 16 (omega arith) | no g ↦ part-after t (16 * e + k) (v ∷ []) fits (16 * d) 16 (omega arith) ]

  new-byte : byte (entry (changed t e k v) e) k ≡ v
  unfolding entry
  new-byte = byte-part (changed t e k v) (16 * e) 16 k inside ∙ rw add-zero at (byte_inside t (16 * e + k) (v ∷ []) fits 0 (omega arith))

  same_byte : (i : ℕ) → i < 16 → (i ≡ k → ⊥) → byte (entry (changed t e k v) e) i ≡ byte (entry t e) i
  unfolding entry
  same_byte i h z =
      byte-part (changed t e k v) (16 * e) 16 i h
      ∙ elim (dec_lt i k) [ yes l ↦ byte-before t (16 * e + k) (v ∷ []) fits (16 * e + i) (omega arith) | no g ↦ byte-after t (16 * e + k) (v ∷ []) fits (16 * e + i) (omega arith) ]
      ∙ sym (byte-part t (16 * e) 16 i h)

  same_num : (i : ℕ) → i + 2 ≤ 16 → (i ≡ k → ⊥) → (i + 1 ≡ k → ⊥) → num_at (entry (changed t e k v) e) i ≡ num_at (entry t e) i
  unfolding num_at
  same_num i h z y = λ j. same_byte i (omega arith) z j * 256 + same_byte (i + 1) (omega arith) y j

module _ (t : List ℕ) (e k v : ℕ) (here : e < entries t) (low : 9 ≤ k) (high : k ≤ 10) where
  row_here : row_of (changed t e k v) e ≡ with_bytes (row_of t e) (row_of (changed t e k v) e).newest (row_of (changed t e k v) e).state
  unfolding row_of row
  row_here =
      let same = same_byte t e k v here (omega arith) in
      let num = same_num t e k v here (omega arith) in
      λ i. record {
        identifier = num 0 (omega arith) (omega arith) (omega arith) i;
        parent = same 2 (omega arith) (omega arith) i;
        kind = same 3 (omega arith) (omega arith) i;
        start = num 4 (omega arith) (omega arith) (omega arith) i;
        size = num 6 (omega arith) (omega arith) (omega arith) i;
        record_length = same 8 (omega arith) (omega arith) i;
        newest = byte (entry (changed t e k v) e) 9;
        state = byte (entry (changed t e k v) e) 10;
        eleven = same 11 (omega arith) (omega arith) i;
        never = same 12 (omega arith) (omega arith) i;
        thirteen = num 13 (omega arith) (omega arith) (omega arith) i;
        fifteen = same 15 (omega arith) (omega arith) i;
      }

  row_alike : (d : ℕ) → row_of (changed t e k v) d ≡ with_bytes (row_of t d) (row_of (changed t e k v) d).newest (row_of (changed t e k v) d).state
  row_alike d =
      elim (ℕ_discrete d e) [
        | yes q ↦ rw q row_here
        | no z ↦ λ i. with_bytes (row_other t e k v here (omega arith) d z i) (row_of (changed t e k v) d).newest (row_of (changed t e k v) d).state
      ]

  pub changed_rows : Rows t (changed t e k v)
  changed_rows = record { same_entries = changed_entries t e k v here (omega arith); alike = row_alike }

  module _ (files : List ℕ) (sound : sound_table t files ≡ true) (file : is_file (row_of t e) ≡ true) where
    kept : newest_sound (row_of t e) (row_of (changed t e k v) e).newest ≡ true → state_sound (row_of (changed t e k v) e).state ≡ true → sound_table (changed t e k v) files ≡ true
    kept new state = rows_sound t (changed t e k v) changed_rows files own (changed_length t e k v here (omega arith)) sound
      where
        own : (d : ℕ) → d < entries t → own_sound (length files) (row_of (changed t e k v) d) ≡ true
        own d l =
            elim (ℕ_discrete d e) [
              | yes q ↦ rw q (ap (own_sound (length files)) row_here ∙ own_kept (length files) (row_of t e) _ _ (entry_own t files sound e here) file new state)
              | no z ↦ ap (own_sound (length files)) (row_other t e k v here (omega arith) d z) ∙ entry_own t files sound d l
            ]

-- the byte of the newest record, and that of the state
module _ (t : List ℕ) (e v : ℕ) (here : e < entries t) where
  pub row-newest : row_of (overwrite t (place_of_newest e) (v ∷ [])) e ≡ with_bytes (row_of t e) v (row_of t e).state
  unfolding row_of row
  row-newest = row_here t e 9 v here (omega arith) (omega arith) ∙ λ i. with_bytes (row_of t e) (new-byte t e 9 v here (omega arith) i) (same_byte t e 9 v here (omega arith) 10 (omega arith) (omega arith) i)

  pub row-state : row_of (overwrite t (place_of_state e) (v ∷ [])) e ≡ with_bytes (row_of t e) (row_of t e).newest v
  unfolding row_of row
  row-state = row_here t e 10 v here (omega arith) (omega arith) ∙ λ i. with_bytes (row_of t e) (same_byte t e 10 v here (omega arith) 9 (omega arith) (omega arith) i) (new-byte t e 10 v here (omega arith) i)

  module _ (files : List ℕ) (sound : sound_table t files ≡ true) (file : is_file (row_of t e) ≡ true) where
    pub newest-kept : newest_sound (row_of t e) v ≡ true → sound_table (overwrite t (place_of_newest e) (v ∷ [])) files ≡ true
    newest-kept h = kept t e 9 v here (omega arith) (omega arith) files sound file (ap (λ (r : Row). newest_sound (row_of t e) r.newest) row-newest ∙ h) (ap (λ (r : Row). state_sound r.state) row-newest ∙ file-state (length files) (row_of t e) (entry_own t files sound e here) file)

    pub state-kept : state_sound v ≡ true → sound_table (overwrite t (place_of_state e) (v ∷ [])) files ≡ true
    state-kept h = kept t e 10 v here (omega arith) (omega arith) files sound file (ap (λ (r : Row). newest_sound (row_of t e) r.newest) row-state ∙ file-newest (length files) (row_of t e) (entry_own t files sound e here) file) (ap (λ (r : Row). state_sound r.state) row-state ∙ h)

-- file memory counts by its length alone
pub sound-length : (t files other : List ℕ) → length files ≡ length other → sound_table t files ≡ sound_table t other
unfolding sound_table
sound-length t files other h = rw h

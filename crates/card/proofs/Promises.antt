-- What the soundness of a table over a file memory promises, one promise at a time.
-- Soundness is one test, joined by and from smaller ones, so each of these holds: were one false, the whole would be false
-- (`shown`; `at_most`, `below` and `equal` for tests on numbers). The promises go from the whole to its parts: the lengths, a row
-- by itself (a directory, a file, a file of records, a name), an entry where it stands, and two entries. A table tests each pair
-- once, the earlier entry first; as that test says the same of the two swapped (`pair_swap`), it holds of any two different entries
-- (`pair`). Assumes nothing.
use mathlib.Core.Path.{◌≡◌, refl, sym, ◌∙◌}
use mathlib.Core.Bool.{Bool, true, false, not, ◌&&◌, and-false, and_comm, or_comm, false≢true}
use mathlib.Core.List.{List}
use mathlib.Core.Logic.{◌⊎◌, inl, inr, ⊎_elim}
use Prim.Native.Nat.{ℕ, ◌+◌, ◌*◌, ◌%◌, ◌≤◌, ◌<◌}
use native.Mathlib.Nat.{mod-add-div, zero-add, eq-zero-or-pos}
use native.Mathlib.Decide.{dec_lt, ℕ_discrete}
use native.Mathlib.Omega.{arith}
use lib.Dec.{leb, ltb, eqb}
use lib.ListN.{length}
use borrow.Author.Tests.{leb-true, leb-false, ltb-true, eqb-true, eqb-false, eq-eqb, ne_eqb, lt-leb, le-leb}
use Rattle.octets.specs.Choice.{pick}
use Rattle.octets.proofs.Picks.{pick_true, pick-false, and_left, and_right, or_either, all_at}
use Rattle.card.specs.declared.Row.{Row}
use Rattle.card.specs.Row.{entries, row_of, is_mf, is_adf, is_transparent, is_cyclic, is_directory, is_file, has_records, can_be_child}
use Rattle.card.specs.Sound.{record_count, root_sound, place_sound, name_sound, directory_sound, newest_sound, state_sound, records_sound, file_sound, own_sound, entry_sound, named_apart, pair_sound, entries_sound, pairs_sound, sound_by, lengths_sound, sound_table}
use Rattle.card.specs.Promised.{ParentsSmaller}

-- a test holds if the whole would fail without it
module _ {whole : Bool} (e : whole ≡ true) where
  shown : (b : Bool) → (b ≡ false → whole ≡ false) → b ≡ true
  shown true f = refl
  shown false f = absurd (false≢true (sym (f refl) ∙ e))

  at_most : (a b : ℕ) → (leb a b ≡ false → whole ≡ false) → a ≤ b
  at_most a b f = leb-true a b (shown (leb a b) f)

  below : (a b : ℕ) → (ltb a b ≡ false → whole ≡ false) → a < b
  below a b f = ltb-true a b (shown (ltb a b) f)

  equal : (a b : ℕ) → (eqb a b ≡ false → whole ≡ false) → a ≡ b
  equal a b f = eqb-true a b (shown (eqb a b) f)

-- kinds
pub file-kind : (r : Row) → is_file r ≡ true → (4 ≤ r.kind) × (r.kind ≤ 6)
file-kind r h = (at_most h 4 r.kind (λ n. rw n), at_most h r.kind 6 (λ n. simp (n, and-false)))

pub directory-kind : (r : Row) → is_directory r ≡ true → (1 ≤ r.kind) × (r.kind ≤ 3)
directory-kind r h = (at_most h 1 r.kind (λ n. rw n), at_most h r.kind 3 (λ n. simp (n, and-false)))

pub file_no_directory : (r : Row) → is_file r ≡ true → is_directory r ≡ false
file_no_directory r h = let k = file-kind r h in rw (lt-leb r.kind 3 (omega arith)) (and-false (leb 1 r.kind))

pub kind-is_file : (r : Row) → 4 ≤ r.kind → r.kind ≤ 6 → is_file r ≡ true
kind-is_file r h g = rw (le-leb 4 r.kind h, le-leb r.kind 6 g)

pub records-kind : (r : Row) → has_records r ≡ true → (r.kind ≡ 5) ⊎ (r.kind ≡ 6)
records-kind r h = ⊎_elim (λ l. inl (eqb-true r.kind 5 l)) (λ c. inr (eqb-true r.kind 6 c)) (or_either (eqb r.kind 5) (eqb r.kind 6) h)

pub records-file : (r : Row) → has_records r ≡ true → is_file r ≡ true
records-file r h = ⊎_elim (λ k. rw k) (λ k. rw k) (records-kind r h)

pub cyclic-records : (r : Row) → is_cyclic r ≡ true → has_records r ≡ true
cyclic-records r h = rw (eqb-true r.kind 6 h)

-- the lengths
module _ (t files : List ℕ) (sound : sound_table t files ≡ true) where
  lengths : lengths_sound (length t) (length files) ≡ true
  unfolding sound_table
  lengths = and_left _ _ sound

  pub whole-entries : length t ≡ 16 * entries t
  unfolding lengths_sound
  whole-entries = let h = equal lengths (length t % 16) 0 (λ n. simp n) in omega arith

  pub some-entries : 1 ≤ entries t
  unfolding lengths_sound
  some-entries = at_most lengths 1 (entries t) (λ n. simp (n, and-false))

  pub few-entries : entries t ≤ 64
  unfolding lengths_sound
  few-entries = at_most lengths (entries t) 64 (λ n. simp (n, and-false))

  pub some_bytes : 1 ≤ length files
  unfolding lengths_sound
  some_bytes = at_most lengths 1 (length files) (λ n. simp (n, and-false))

  pub few_bytes : length files ≤ 32768
  unfolding lengths_sound
  few_bytes = at_most lengths (length files) 32768 (λ n. simp (n, and-false))

-- a row by itself, over a file memory of `files` bytes: a directory
module _ (files : ℕ) (r : Row) (own : own_sound files r ≡ true) (dir : is_directory r ≡ true) where
  directory : directory_sound r ≡ true
  unfolding own_sound
  directory = shown own (directory_sound r) (λ n. rw (pick_true (is_directory r) (directory_sound r) (file_sound files r) dir, n) (simp and-false))

  pub directory-start : r.start ≡ 0
  directory-start = equal directory r.start 0 (λ n. simp n)

  pub directory-size : r.size ≡ 0
  directory-size = equal directory r.size 0 (λ n. simp (n, and-false))

  pub directory_record : r.record_length ≡ 0
  directory_record = equal directory r.record_length 0 (λ n. simp (n, and-false))

  pub directory-newest : r.newest ≡ 0
  directory-newest = equal directory r.newest 0 (λ n. simp (n, and-false))

  pub directory-never : r.never ≡ 0
  directory-never = equal directory r.never 0 (λ n. simp (n, and-false))

  pub directory-state : r.state ≡ 5
  directory-state = equal directory r.state 5 (λ n. simp (n, and-false))

-- a row by itself: a file
module _ (files : ℕ) (r : Row) (own : own_sound files r ≡ true) (file : is_file r ≡ true) where
  file-rules : file_sound files r ≡ true
  unfolding own_sound
  file-rules = shown own (file_sound files r) (λ n. rw (pick-false (is_directory r) (directory_sound r) (file_sound files r) (file_no_directory r file), n) (simp and-false))

  pub file-size : 1 ≤ r.size
  unfolding file_sound
  file-size = at_most file-rules 1 r.size (λ n. simp n)

  pub file-inside : r.start + r.size ≤ files
  unfolding file_sound
  file-inside = at_most file-rules (r.start + r.size) files (λ n. simp (n, and-false))

  pub file-never : r.never < 32
  unfolding file_sound
  file-never = below file-rules r.never 32 (λ n. simp (n, and-false))

  pub file-state : state_sound r.state ≡ true
  unfolding file_sound
  file-state = shown file-rules (state_sound r.state) (λ n. simp (n, and-false))

  pub state_known : (r.state ≡ 4) ⊎ (r.state ≡ 5)
  state_known = ⊎_elim (λ h. inl (eqb-true r.state 4 h)) (λ h. inr (eqb-true r.state 5 h)) (or_either (eqb r.state 4) (eqb r.state 5) file-state)

  pub file-newest : newest_sound r r.newest ≡ true
  unfolding file_sound
  file-newest = shown file-rules (newest_sound r r.newest) (λ n. simp (n, and-false))

  pub newest-zero : is_cyclic r ≡ false → r.newest ≡ 0
  unfolding newest_sound
  newest-zero other = eqb-true r.newest 0 (rw (pick-false (is_cyclic r) (leb 1 r.record_length && ltb r.newest (record_count r)) (eqb r.newest 0) other) at file-newest)

  pub file-records : records_sound r ≡ true
  unfolding file_sound
  file-records = shown file-rules (records_sound r) (λ n. simp (n, and-false))

  pub transparent_record : is_transparent r ≡ true → r.record_length ≡ 0
  unfolding records_sound pick
  transparent_record h = equal file-records r.record_length 0 (λ n. simp (h, n))

  pub transparent_newest : is_transparent r ≡ true → r.newest ≡ 0
  transparent_newest h = newest-zero (rw (eqb-true r.kind 4 h))

-- a row by itself: a file of records
module _ (files : ℕ) (r : Row) (own : own_sound files r ≡ true) (has : has_records r ≡ true) where
  record_rules : (leb 1 r.record_length && (leb r.record_length 255 && (eqb (r.size % r.record_length) 0 && (leb 1 (record_count r) && leb (record_count r) 254)))) ≡ true
  unfolding records_sound pick
  record_rules =
      let e : eqb r.kind 4 ≡ false = ⊎_elim (λ k. rw k) (λ k. rw k) (records-kind r has) in
      rw e at (file-records files r own (records-file r has))

  pub record_some : 1 ≤ r.record_length
  record_some = at_most record_rules 1 r.record_length (λ n. simp n)

  pub record_short : r.record_length ≤ 255
  record_short = at_most record_rules r.record_length 255 (λ n. simp (n, and-false))

  pub records-some : 1 ≤ record_count r
  records-some = at_most record_rules 1 (record_count r) (λ n. simp (n, and-false))

  pub records-few : record_count r ≤ 254
  records-few = at_most record_rules (record_count r) 254 (λ n. simp (n, and-false))

  pub records-whole : r.size ≡ r.record_length * record_count r
  records-whole =
      let h = equal record_rules (r.size % r.record_length) 0 (λ n. simp (n, and-false)) in
      sym (mod-add-div r.size r.record_length) ∙ rw (h, zero-add)

  pub newest_below : r.newest < record_count r
  unfolding newest_sound pick
  newest_below =
      ⊎_elim
      (λ k. let z = newest-zero files r own (records-file r has) (rw k) in let s = records-some in omega arith)
      (λ k. below (file-newest files r own (records-file r has)) r.newest (record_count r) (λ n. rw (eq-eqb r.kind 6 k) (simp (n, and-false))))
      (records-kind r has)

-- a row's name
module _ (r : Row) (name : name_sound r ≡ true) where
  pub ADF-parent : is_adf r ≡ true → r.parent ≡ 0
  unfolding name_sound pick
  ADF-parent h = equal name r.parent 0 (λ n. simp (h, n))

  pub ADF-identifier : is_adf r ≡ true → r.identifier ≡ 0x7FFF
  unfolding name_sound pick
  ADF-identifier h = equal name r.identifier 0x7FFF (λ n. simp (h, n, and-false))

  pub name_free : is_adf r ≡ false → (r.identifier ≡ 0x3F00 → ⊥) × (r.identifier ≡ 0x3FFF → ⊥) × (r.identifier ≡ 0x7FFF → ⊥)
  unfolding name_sound pick
  name_free h = (λ q. false≢true (sym (rw (h, q)) ∙ name), λ q. false≢true (sym (rw (h, q)) ∙ name), λ q. false≢true (sym (rw (h, q)) ∙ name))

-- an entry where it stands
module _ (t files : List ℕ) (sound : sound_table t files ≡ true) (e : ℕ) (here : e < entries t) where
  entry : entry_sound (length files) e (row_of t (row_of t e).parent) (row_of t e) ≡ true
  unfolding sound_table sound_by entries_sound
  entry = all_at (entries t) e _ (and_left _ _ (and_right (lengths_sound (length t) (length files)) _ sound)) here

  pub entry_own : own_sound (length files) (row_of t e) ≡ true
  unfolding entry_sound
  entry_own = and_left _ _ entry

  place : pick (eqb e 0) (root_sound (row_of t e)) (place_sound e (row_of t (row_of t e).parent) (row_of t e) && name_sound (row_of t e)) ≡ true
  unfolding entry_sound
  place = and_right (own_sound (length files) (row_of t e)) _ entry

  root : e ≡ 0 → root_sound (row_of t e) ≡ true
  unfolding pick
  root z = rw (eq-eqb e 0 z) at place

  other : (e ≡ 0 → ⊥) → (place_sound e (row_of t (row_of t e).parent) (row_of t e) && name_sound (row_of t e)) ≡ true
  unfolding pick
  other z = rw (ne_eqb e 0 z) at place

  pub first_kind : e ≡ 0 → (row_of t e).kind ≡ 1
  first_kind z = equal (root z) (row_of t e).kind 1 (λ n. simp n)

  pub first-identifier : e ≡ 0 → (row_of t e).identifier ≡ 0x3F00
  first-identifier z = equal (root z) (row_of t e).identifier 0x3F00 (λ n. simp (n, and-false))

  pub first-parent : e ≡ 0 → (row_of t e).parent ≡ 0
  first-parent z = equal (root z) (row_of t e).parent 0 (λ n. simp (n, and-false))

  pub other_kind : (e ≡ 0 → ⊥) → (2 ≤ (row_of t e).kind) × ((row_of t e).kind ≤ 6)
  other_kind z = (at_most (other z) 2 (row_of t e).kind (λ n. simp n), at_most (other z) (row_of t e).kind 6 (λ n. simp (n, and-false)))

  pub parent_below : (e ≡ 0 → ⊥) → (row_of t e).parent < e
  parent_below z = below (other z) (row_of t e).parent e (λ n. simp (n, and-false))

  pub parent-directory : (e ≡ 0 → ⊥) → is_directory (row_of t (row_of t e).parent) ≡ true
  parent-directory z = shown (other z) (is_directory (row_of t (row_of t e).parent)) (λ n. rw n (simp and-false))

  pub other_name : (e ≡ 0 → ⊥) → name_sound (row_of t e) ≡ true
  other_name z = and_right (place_sound e (row_of t (row_of t e).parent) (row_of t e)) _ (other z)

  pub entry-kind : (1 ≤ (row_of t e).kind) × ((row_of t e).kind ≤ 6)
  entry-kind = ⊎_elim (λ z. let k = first_kind z in (omega arith, omega arith)) (λ p. let k = other_kind (λ z. omega arith) in (omega arith, omega arith)) (eq-zero-or-pos e)

  pub no_directory-file : is_directory (row_of t e) ≡ false → is_file (row_of t e) ≡ true
  no_directory-file n = kind-is_file (row_of t e) (leb-false (row_of t e).kind 3 (rw (le-leb 1 (row_of t e).kind entry-kind.0) at n)) entry-kind.1

  pub parent-inside : (row_of t e).parent < entries t
  parent-inside = ⊎_elim (λ z. let p = first-parent z in omega arith) (λ p. let b = parent_below (λ z. omega arith) in omega arith) (eq-zero-or-pos e)

  pub MF-first : is_mf (row_of t e) ≡ true → e ≡ 0
  MF-first h = let k = eqb-true (row_of t e).kind 1 h in ⊎_elim (λ z. z) (λ p. let o = other_kind (λ z. omega arith) in absurd (omega arith)) (eq-zero-or-pos e)

pub parents_smaller : (t files : List ℕ) → sound_table t files ≡ true → ParentsSmaller t
parents_smaller t files sound e here below_root = parent_below t files sound e here (λ z. false≢true (sym below_root ∙ rw (first_kind t files sound e here z)))

-- two entries
eqb_swap : (a b : ℕ) → eqb a b ≡ eqb b a
eqb_swap a b = go (eqb a b) refl
  where
    go : (v : Bool) → eqb a b ≡ v → v ≡ eqb b a
    go true e = sym (eq-eqb b a (sym (eqb-true a b e)))
    go false e = sym (ne_eqb b a (λ q. eqb-false a b e (sym q)))

pub pair_swap : (a b : Row) → pair_sound a b ≡ pair_sound b a
unfolding pair_sound
pair_swap a b = λ i. not (and_comm (can_be_child a) (can_be_child b) i && (eqb_swap a.parent b.parent i && eqb_swap a.identifier b.identifier i)) && or_comm (leb (a.start + a.size) b.start) (leb (b.start + b.size) a.start) i

module _ (t files : List ℕ) (sound : sound_table t files ≡ true) where
  earlier : (d e : ℕ) → d < e → e < entries t → pair_sound (row_of t d) (row_of t e) ≡ true
  unfolding sound_table sound_by pairs_sound
  earlier d e l here = all_at e d _ (all_at (entries t) e _ (and_right (entries_sound (entries t) (length files) (row_of t)) _ (and_right (lengths_sound (length t) (length files)) _ sound)) here) l

  pub pair : (d e : ℕ) → d < entries t → e < entries t → (d ≡ e → ⊥) → pair_sound (row_of t d) (row_of t e) ≡ true
  pair d e there here z = elim (dec_lt d e) [ yes l ↦ earlier d e l here | no g ↦ pair_swap (row_of t d) (row_of t e) ∙ earlier e d (omega arith) there ]

  -- entries that differ lie apart
  pub lie_apart_lem : (d e : ℕ) → d < entries t → e < entries t → (d ≡ e → ⊥) → ((row_of t d).start + (row_of t d).size ≤ (row_of t e).start) ⊎ ((row_of t e).start + (row_of t e).size ≤ (row_of t d).start)
  unfolding pair_sound
  lie_apart_lem d e there here z =
      ⊎_elim
      (λ h. inl (leb-true _ _ h))
      (λ h. inr (leb-true _ _ h))
      (or_either (leb ((row_of t d).start + (row_of t d).size) (row_of t e).start) (leb ((row_of t e).start + (row_of t e).size) (row_of t d).start) (and_right (named_apart (row_of t d) (row_of t e)) _ (pair d e there here z)))

  -- two children of one parent that have one identifier are one
  pub one-child : (d e : ℕ) → d < entries t → e < entries t → can_be_child (row_of t d) ≡ true → can_be_child (row_of t e) ≡ true → (row_of t d).parent ≡ (row_of t e).parent → (row_of t d).identifier ≡ (row_of t e).identifier → d ≡ e
  unfolding pair_sound
  one-child d e there here a b p i =
      elim (ℕ_discrete d e) [
        | yes q ↦ q
        | no z ↦ absurd (false≢true (sym (rw (a, b, eq-eqb (row_of t d).parent (row_of t e).parent p, eq-eqb (row_of t d).identifier (row_of t e).identifier i)) ∙ pair d e there here z))
      ]

-- The entries in front of the newest mark, and those behind it. Assumes nothing.
use mathlib.Core.Path.{◌≡◌, refl}
use mathlib.Core.Bool.{Bool, true, false}
use mathlib.Core.List.{List, [], ◌∷◌}
use Prim.Native.Nat.{ℕ, ◌+◌, ◌-◌, ◌≤◌}
use native.Mathlib.Nat.{le_refl}
use native.Mathlib.Omega.{arith}
use lib.ListN.{length}
use Rattle.octets.specs.Choice.{pick}
use Rattle.octets.proofs.Picks.{pick-false, on_pick, and_right}
use Rattle.journal.specs.Entries.{Entry, head_size, entry_bytes, is_mark, entry_at, no_entry}
use Rattle.journal.specs.Sound.{entry_sound, all_sound, last_is_mark, oldest_is_mark, marks}
use Rattle.journal.specs.Changes.{since_mark, behind_mark, bytes_taken}
use Rattle.journal.proofs.Entries.{Reading, none, stop, more}
use Rattle.journal.proofs.Tails.{begins}
use Rattle.journal.proofs.Encoded.{taken_all}

-- with another entry than a mark in front
module _ (e : Entry) (es : List Entry) (other : is_mark e ≡ false) where
  pub since_other : since_mark (e ∷ es) ≡ e ∷ since_mark es
  unfolding since_mark
  since_other = pick-false (is_mark e) [] (e ∷ since_mark es) other

  pub behind_other : behind_mark (e ∷ es) ≡ behind_mark es
  unfolding behind_mark
  behind_other = pick-false (is_mark e) es (behind_mark es) other

  pub marks_other : marks (e ∷ es) ≡ marks es
  unfolding marks
  marks_other = rw (pick-false {A = ℕ} (is_mark e) 1 0 other) (omega arith)

-- behind the newest mark: no more bytes, each entry sound, the oldest a mark, one mark fewer, and what these bytes hold
pub behind_less : (es : List Entry) → bytes_taken (behind_mark es) ≤ bytes_taken es
unfolding bytes_taken behind_mark
behind_less [] = le_refl 0
behind_less (e ∷ es) =
    let h = behind_less es in
    on_pick (λ (fs : List Entry). bytes_taken fs ≤ entry_bytes (length e.old) + bytes_taken es) (is_mark e) es (behind_mark es) (λ m. omega arith) (λ m. omega arith)

pub behind-sound : (t : List ℕ) (files : ℕ) (es : List Entry) → all_sound t files es ≡ true → all_sound t files (behind_mark es) ≡ true
unfolding all_sound behind_mark
behind-sound t files [] h = h
behind-sound t files (e ∷ es) h =
    let r = and_right (entry_sound t files e) (all_sound t files es) h in
    on_pick (λ (fs : List Entry). all_sound t files fs ≡ true) (is_mark e) es (behind_mark es) (λ m. r) (λ m. behind-sound t files es r)

pub behind_oldest : (b : Bool) (es : List Entry) → last_is_mark b es ≡ true → oldest_is_mark (behind_mark es) ≡ true
unfolding behind_mark oldest_is_mark last_is_mark
behind_oldest b [] h = refl
behind_oldest b (e ∷ es) h =
    on_pick (λ (fs : List Entry). last_is_mark true fs ≡ true) (is_mark e) es (behind_mark es) (λ m. rw m at h) (λ m. behind_oldest (is_mark e) es h)

marks_of : (b : Bool) (es fs : List Entry) → marks fs ≡ marks es - 1 → marks (pick b es fs) ≡ pick b 1 0 + marks es - 1
unfolding pick
marks_of true es fs h = omega arith
marks_of false es fs h = omega arith

pub behind-marks : (es : List Entry) → marks (behind_mark es) ≡ marks es - 1
unfolding behind_mark marks
behind-marks [] = refl
behind-marks (e ∷ es) = marks_of (is_mark e) es (behind_mark es) (behind-marks es)

pub behind_reading : (t : List ℕ) (files : ℕ) (j : List ℕ) {u : ℕ} {es : List Entry} → Reading j u es → head_size + u ≤ length j → all_sound t files es ≡ true → Reading j (bytes_taken (behind_mark es)) (behind_mark es)
unfolding behind_mark bytes_taken all_sound no_entry pick
behind_reading t files j none fits h = none
behind_reading t files j (stop p r) fits h = none
behind_reading t files j (more {u} {es} r rest) fits h =
    let b = begins j u r in
    let s = and_right (entry_sound t files (entry_at j u)) (all_sound t files es) h in
    on_pick (λ (fs : List Entry). Reading j (bytes_taken fs) fs) (is_mark (entry_at j u)) es (behind_mark es)
    (λ m. rw (taken_all t files j rest (omega arith) s) rest)
    (λ m. behind_reading t files j rest (omega arith) s)

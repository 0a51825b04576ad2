-- A sound journal is its entries' bytes between a head and zeros. Assumes nothing.
use mathlib.Core.Path.{◌≡◌, refl, sym, ap, ◌∙◌}
use mathlib.Core.Bool.{true, false, false≢true}
use mathlib.Core.List.{List, [], ◌∷◌, ◌++◌}
use Prim.Native.Nat.{ℕ, ◌+◌, ◌-◌, ◌≤◌}
use native.Mathlib.Omega.{arith}
use lib.ListN.{length, take, drop, length-drop, take-append-drop}
use lib.Seq.{take-add, drop-drop}
use Rattle.octets.specs.Choice.{pick}
use Rattle.octets.specs.Bytes.{part, zeros}
use Rattle.octets.proofs.Picks.{and_left, and_right}
use Rattle.octets.proofs.Same.{zero-true}
use Rattle.journal.specs.Entries.{Entry, head_size, head, used_bytes, scripts_on_trial, entry_bytes, encode, tail_at, entry_at, readable, no_entry, entries_of}
use Rattle.journal.specs.Sound.{form_sound, entry_sound, all_sound}
use Rattle.journal.specs.Changes.{bytes_taken, cut_back}
use Rattle.journal.proofs.Entries.{Reading, none, stop, more, before, read_all}
use Rattle.journal.proofs.Tails.{begins, old-length, entry_bytes_lem}
use Rattle.journal.proofs.Parts.{Parts, used-inside}

-- the bytes of entries, newest first, as they stand: the newest last
unfoldable pub encode_all : List Entry → List ℕ
encode_all [] = []
encode_all (e ∷ es) = encode_all es ++ encode e

no_entry_lem : (t : List ℕ) (files : ℕ) → entry_sound t files no_entry ≡ false
unfolding entry_sound form_sound no_entry pick
no_entry_lem t files = refl

module _ (t : List ℕ) (files : ℕ) (j : List ℕ) where
  -- what holds of no entries, and of one more behind those of which it holds, holds of all sound entries that were read
  on_sound : (P : ℕ → List Entry → Type 0) → P 0 [] → ((u : ℕ) (es : List Entry) → readable j u ≡ true → head_size + u ≤ length j → P (before j u) es → P u (entry_at j u ∷ es))
      → {u : ℕ} {es : List Entry} → Reading j u es → head_size + u ≤ length j → all_sound t files es ≡ true → P u es
  unfolding all_sound
  on_sound P start one none fits h = start
  on_sound P start one (stop p r) fits h = absurd (false≢true (sym (no_entry_lem t files) ∙ and_left _ _ h))
  on_sound P start one (more {u} {es} r rest) fits h =
      let b = begins j u r in
      one u es r fits (on_sound P start one rest (omega arith) (and_right (entry_sound t files (entry_at j u)) _ h))

  -- they take the bytes that they were read from, and these bytes are theirs
  pub taken_all : {u : ℕ} {es : List Entry} → Reading j u es → head_size + u ≤ length j → all_sound t files es ≡ true → bytes_taken es ≡ u
  unfolding bytes_taken
  taken_all = on_sound (λ u es. bytes_taken es ≡ u) refl (λ u es r fits x. let b = begins j u r in let l = old-length j u r fits in omega arith)

  pub encoded : {u : ℕ} {es : List Entry} → Reading j u es → head_size + u ≤ length j → all_sound t files es ≡ true → part j head_size u ≡ encode_all es
  unfolding encode_all
  encoded =
      on_sound (λ u es. part j head_size u ≡ encode_all es) refl
      (λ u es r fits x.
      let n = entry_bytes (tail_at j u).size in
      ap (part j head_size) (sym (begins j u r)) ∙ take-add (before j u) n (drop head_size j)
      ∙ (λ i. x i ++ take n (drop-drop (before j u) head_size j i))
      ∙ ap (λ (bs : List ℕ). encode_all es ++ bs) (entry_bytes_lem j u r fits))

-- all of a sound journal's: cut back to them it is itself
module _ (t files j : List ℕ) (p : Parts t files j) where
  pub sound_encoded : part j head_size (used_bytes j) ≡ encode_all (entries_of j)
  sound_encoded = encoded t (length files) j (read_all j) (used-inside t files j p) p.sound

  pub sound_taken : bytes_taken (entries_of j) ≡ used_bytes j
  sound_taken = taken_all t (length files) j (read_all j) (used-inside t files j p) p.sound

  pub sound_cut : cut_back j (head (used_bytes j) (scripts_on_trial j) 0) ≡ j
  unfolding cut_back
  sound_cut =
      let u = used_bytes j in
      let z : drop u (drop head_size j) ≡ zeros (length j - (head_size + u)) =
      drop-drop u head_size j ∙ zero-true (drop (head_size + u) j) p.rest ∙ ap zeros (length-drop (head_size + u) j) in
      sym (λ i. p.begins i ++ (take u (drop head_size j) ++ z i)) ∙ rw (take-append-drop u (drop head_size j), take-append-drop head_size j)

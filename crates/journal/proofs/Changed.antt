-- A sound journal stays sound with one more entry, cut back, and beside another table and file memory. Assumes nothing.
use mathlib.Core.Path.{◌≡◌, ◌∙◌}
use mathlib.Core.Bool.{true}
use mathlib.Core.List.{List, [], ◌∷◌}
use Prim.Native.Nat.{ℕ, zero, suc, ◌+◌, ◌-◌, ◌≤◌, ◌<◌}
use native.Mathlib.Omega.{arith}
use lib.Dec.{eqb}
use lib.ListN.{length, drop}
use lib.Seq.{drop-drop}
use Rattle.octets.specs.Bytes.{all_zero}
use Rattle.octets.proofs.Picks.{and_right, and_both}
use Rattle.octets.proofs.Same.{zero-zeros}
use Rattle.card.specs.Row.{Card}
use Rattle.journal.specs.declared.Head.{Head}
use Rattle.journal.specs.Entries.{Entry, head_size, head, used_bytes, room, encode, entries_of}
use Rattle.journal.specs.Promised.{HasRoom}
use Rattle.journal.specs.Sound.{most_scripts, entry_sound, all_sound, oldest_is_mark, marks}
use Rattle.journal.specs.Changes.{pushed, cut_back}
use Rattle.journal.proofs.Entries.{Reading}
use Rattle.journal.proofs.Pushed.{head_flag, pushed-length, pushed-head, pushed-rest, pushed_scripts, pushed-used, pushed-entries}
use Rattle.journal.proofs.Parts.{Parts, used-inside}
use Rattle.journal.proofs.Cut.{cut_length, cut_head, cut_rest, cut_scripts, cut_used, cut_entries}
use Rattle.journal.proofs.Forms.{Alike, alike_all}

zero-drop : (n : ℕ) (m : List ℕ) → all_zero m ≡ true → all_zero (drop n m) ≡ true
unfolding all_zero
zero-drop zero m h = h
zero-drop (suc n) [] h = h
zero-drop (suc n) (b ∷ m) h = zero-drop n m (and_right (eqb b 0) _ h)

-- one more entry
module _ (t files j : List ℕ) (p : Parts t files j) (s : ℕ) (e : Entry) (fits : HasRoom j (length (encode e))) where
  pub push_parts : e.place < 65536 → s ≤ most_scripts → entry_sound t (length files) e ≡ true → oldest_is_mark (e ∷ entries_of j) ≡ true → marks (e ∷ entries_of j) ≡ s → Parts t files (pushed j s e)
  unfolding room all_sound
  push_parts near few sound oldest count =
      let l = pushed-length j s e fits in
      let short : length j ≤ 65535 = omega (arith, p.size) in
      let u = pushed-used j s e fits short in
      let x = pushed_scripts j s e fits in
      let z = pushed-entries j s e fits short near in
      let flag = head_flag j _ p.begins in
      let n = length (encode e) in
      let q : head_size + used_bytes j + n ≡ head_size + (used_bytes j + n) = omega arith in
      record {
        size = l ∙ p.size;
        begins = rw (u, x, ← flag) (pushed-head j s e fits);
        used = omega (arith, l, u, fits);
        scripts = rw x few;
        rest = rw (u, pushed-rest j s e fits, ← q, ← (drop-drop n (head_size + used_bytes j) j)) (zero-drop n (drop (head_size + used_bytes j) j) p.rest);
        sound = rw z (and_both (entry_sound t (length files) e) _ sound p.sound);
        oldest = rw z oldest;
        marked = rw (x, z) count;
      }

-- a journal cut back
module _ (t files j : List ℕ) (p : Parts t files j) (u s : ℕ) {es : List Entry} (r : Reading j u es) (fits : u ≤ used_bytes j) where
  pub cut_parts : s ≤ most_scripts → all_sound t (length files) es ≡ true → oldest_is_mark es ≡ true → marks es ≡ s → Parts t files (cut_back j (head u s 0))
  unfolding room
  cut_parts few sound oldest count =
      let short : length j ≤ 65535 = omega (arith, p.size) in
      let h : Head = head u s 0 in
      let f : head_size + u ≤ length j = omega (arith, used-inside t files j p) in
      let l = cut_length j h f in
      let x = cut_used j h f short in
      let y = cut_scripts j h f in
      let z = cut_entries j h f short r in
      record {
        size = l ∙ p.size;
        begins = rw (x, y) (cut_head j h f);
        used = omega arith;
        scripts = rw y few;
        rest = rw (x, cut_rest j h f) (zero-zeros (length j - (head_size + u)));
        sound = rw z sound;
        oldest = rw z oldest;
        marked = rw (y, z) count;
      }

-- beside a card that is alike
pub parts_alike : (c d : Card) → Alike c d → Parts c.table c.files c.journal → Parts d.table d.files c.journal
parts_alike c d a p =
    record {
      size = p.size;
      begins = p.begins;
      used = p.used;
      scripts = p.scripts;
      rest = p.rest;
      sound = alike_all c d a (entries_of c.journal) ∙ p.sound;
      oldest = p.oldest;
      marked = p.marked;
    }

-- The parts of a journal's soundness and of a card's: what it promises, and what proves it. Assumes nothing.
use mathlib.Core.Path.{◌≡◌}
use mathlib.Core.Bool.{true}
use mathlib.Core.List.{List}
use Prim.Native.Nat.{ℕ, ◌+◌, ◌≤◌}
use native.Mathlib.Omega.{arith}
use lib.Dec.{leb, eqb}
use lib.ListN.{length, drop}
use borrow.Author.Tests.{leb-true, le-leb, eqb-true, eq-eqb}
use Rattle.octets.specs.Bytes.{part, all_zero, same}
use Rattle.octets.proofs.Picks.{and_left, and_right, and_both}
use Rattle.octets.proofs.Same.{same_true, same_refl}
use Rattle.card.specs.Row.{Card}
use Rattle.card.specs.Sound.{sound_table}
use Rattle.journal.specs.Entries.{head_size, head, head_bytes, used_bytes, scripts_on_trial, room, entries_of}
use Rattle.journal.specs.Promised.{HasRoom}
use Rattle.journal.specs.Sound.{journal_length, most_scripts, head_sound, all_sound, oldest_is_mark, marks, entries_sound, sound_journal, sound_card}

-- what a journal's soundness promises beside a table and a file memory
pub record Parts (t files j : List ℕ) : Type 0 where
  pub size : length j ≡ journal_length
  pub begins : part j 0 head_size ≡ head_bytes (head (used_bytes j) (scripts_on_trial j) 0)
  pub used : used_bytes j ≤ room j
  pub scripts : scripts_on_trial j ≤ most_scripts
  pub rest : all_zero (drop (head_size + used_bytes j) j) ≡ true
  pub sound : all_sound t (length files) (entries_of j) ≡ true
  pub oldest : oldest_is_mark (entries_of j) ≡ true
  pub marked : marks (entries_of j) ≡ scripts_on_trial j

-- one gives the other
module _ (t files j : List ℕ) where
  parts : sound_journal t files j ≡ true → Parts t files j
  unfolding sound_journal head_sound entries_sound
  parts h =
      let inner = and_right (eqb (length j) journal_length) _ h in
      let top = and_left (head_sound j) _ inner in
      let low = and_right (head_sound j) _ inner in
      let one = and_right (same (part j 0 head_size) (head_bytes (head (used_bytes j) (scripts_on_trial j) 0))) _ top in
      let two = and_right (leb (used_bytes j) (room j)) _ one in
      let three = and_right (all_sound t (length files) (entries_of j)) _ low in
      record {
        size = eqb-true (length j) journal_length (and_left _ _ h);
        begins = same_true _ _ (and_left _ _ top);
        used = leb-true (used_bytes j) (room j) (and_left _ _ one);
        scripts = leb-true (scripts_on_trial j) most_scripts (and_left _ _ two);
        rest = and_right (leb (scripts_on_trial j) most_scripts) _ two;
        sound = and_left _ _ low;
        oldest = and_left _ _ three;
        marked = eqb-true (marks (entries_of j)) (scripts_on_trial j) (and_right (oldest_is_mark (entries_of j)) _ three);
      }

  whole : Parts t files j → sound_journal t files j ≡ true
  unfolding sound_journal head_sound entries_sound
  whole p =
      rw (eq-eqb (length j) journal_length p.size, p.begins, same_refl (head_bytes (head (used_bytes j) (scripts_on_trial j) 0)), le-leb (used_bytes j) (room j) p.used, le-leb (scripts_on_trial j) most_scripts p.scripts, p.rest, p.sound, p.oldest)
      (eq-eqb (marks (entries_of j)) (scripts_on_trial j) p.marked)

-- the used bytes lie inside the journal
pub used-inside : (t files j : List ℕ) → Parts t files j → head_size + used_bytes j ≤ length j
unfolding room
used-inside t files j p = omega (arith, p.size, p.used)

-- and what its room has left is room behind them
pub room-left : (t files j : List ℕ) (n : ℕ) → Parts t files j → used_bytes j + n ≤ room j → HasRoom j n
unfolding room
room-left t files j n p left = omega (arith, p.size)

module _ (c : Card) where
  pub card-table : sound_card c ≡ true → sound_table c.table c.files ≡ true
  unfolding sound_card
  card-table h = and_left _ _ h

  pub card_parts : sound_card c ≡ true → Parts c.table c.files c.journal
  unfolding sound_card
  card_parts h = parts c.table c.files c.journal (and_right (sound_table c.table c.files) _ h)

  pub card-whole : sound_table c.table c.files ≡ true → Parts c.table c.files c.journal → sound_card c ≡ true
  unfolding sound_card
  card-whole t p = and_both _ _ t (whole c.table c.files c.journal p)

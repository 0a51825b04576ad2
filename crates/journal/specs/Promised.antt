-- What promises speak of besides the rules: the bounds of a tail that was read, a journal's room, what a write asks, and what a script
-- starts from.
use Rattle.std.specs.Prelude.{ℕ, ◌+◌, ◌≤◌, ◌<◌, ◌≡◌, true, List, length}
use Rattle.card.specs.Row.{Card, entries, row_of}
use Rattle.card.specs.Tree.{is_root}
use Rattle.journal.specs.declared.Head.{Head}
use Rattle.journal.specs.declared.Tail.{Tail}
use Rattle.journal.specs.Entries.{head_size, head_of, used_bytes, scripts_on_trial, entry_bytes}
use Rattle.journal.specs.Sound.{sound_card}

-- the kind is a byte, place and size are 16-bit numbers
pub record TailFits (t : Tail) : Type 0 where
  pub kind : t.kind < 256
  pub place : t.place < 65536
  pub size : t.size < 65536

-- a write of n bytes at an offset in a part of a memory asks that the part lies in the memory and the bytes in the part, that the head
-- is the journal's, and that the journal, whose used bytes are a 16-bit number, has room for the entry
pub record WriteAsks (memory journal : List ℕ) (h : Head) (start size offset n : ℕ) : Type 0 where
  pub inside : start + size ≤ length memory
  pub within : offset + n ≤ size
  pub head : h ≡ head_of journal
  pub short : length journal ≤ 65535
  pub left : head_size + h.used + entry_bytes n ≤ length journal

-- a journal has room for n bytes more, after its used ones
abbrev pub HasRoom : List ℕ → ℕ → Type 0
HasRoom j n = head_size + used_bytes j + n ≤ length j

-- what a script starts from: a sound card that has the script's mark, and an application, which is its own root
pub record Starts (card : Card) (application : ℕ) : Type 0 where
  pub sound : sound_card card ≡ true
  pub marked : 1 ≤ scripts_on_trial card.journal
  pub inside : application < entries card.table
  pub root : is_root (row_of card.table application) ≡ true

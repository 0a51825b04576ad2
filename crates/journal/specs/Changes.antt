-- What changes a card: a mark, a list of writes, a take-back, a confirmation.
use Rattle.std.specs.Prelude.{ℕ, ◌+◌, ◌-◌, List, [], ◌∷◌, ◌++◌, length, eqb}
use Rattle.octets.specs.Choice.{pick}
use Rattle.octets.specs.Bytes.{part, overwrite, zeros}
use Rattle.card.specs.Row.{Card}
use Rattle.journal.specs.declared.Head.{Head}
use Rattle.journal.specs.declared.Memory.{Memory}
use Rattle.journal.specs.declared.Memory.TheVariants.{Files, Table}
use Rattle.journal.specs.Entries.{Entry, head_size, head, head_bytes, used_bytes, scripts_on_trial, flag_of, entry_bytes, encode, holds_file_bytes, holds_table_byte, is_mark, mark, entries_of}

-- a write: the memory, the place in it, the new bytes
pub record Write : Type 0 where
  pub memory : Memory
  pub place : ℕ
  pub new : List ℕ

-- a memory of a card
unfoldable pub memory_of : Memory → Card → List ℕ
memory_of Files c = c.files
memory_of Table c = c.table

-- a card whose journal, or one of the memories, is another
unfoldable pub with_journal : Card → List ℕ → Card
with_journal c j = record { table = c.table; files = c.files; journal = j }

unfoldable pub with_memory : Memory → Card → List ℕ → Card
with_memory Files c m = record { table = c.table; files = m; journal = c.journal }
with_memory Table c m = record { table = m; files = c.files; journal = c.journal }

-- a head with n bytes of entries more
abbrev pub head_after : Head → ℕ → Head
head_after h n = head (h.used + n) h.scripts h.flag

-- the journal with one more entry, and with `scripts` scripts on trial
unfoldable pub pushed : List ℕ → ℕ → Entry → List ℕ
pushed j scripts e =
    overwrite
    (overwrite j (head_size + used_bytes j) (encode e))
    0
    (head_bytes (head (used_bytes j + length (encode e)) scripts (flag_of j)))

-- "Each accepted run appends a mark (8 bytes)."
unfoldable pub marked : List ℕ → List ℕ
marked j = pushed j (scripts_on_trial j + 1) mark

-- the card that an accepted run's script starts on: it has the script's mark
abbrev pub with_mark : Card → Card
with_mark c = with_journal c (marked c.journal)

-- the kind of entry that holds a memory's old bytes
unfoldable pub kind_for : Memory → ℕ
kind_for Files = holds_file_bytes
kind_for Table = holds_table_byte

-- the entry of a write: the old bytes at its place
unfoldable pub entry_for : Write → Card → Entry
entry_for w c =
    record {
      kind = kind_for w.memory;
      place = w.place;
      old = part (memory_of w.memory c) w.place (length w.new);
    }

-- one write: the journal gets the old bytes, the memory the new ones
unfoldable pub write : Write → Card → Card
write w c =
    with_memory w.memory
    (with_journal c (pushed c.journal (scripts_on_trial c.journal) (entry_for w c)))
    (overwrite (memory_of w.memory c) w.place w.new)

-- a list of writes, the first one first
unfoldable pub perform : List Write → Card → Card
perform [] c = c
perform (w ∷ ws) c = perform ws (write w c)

-- the journal bytes that a list of writes takes: "A writing command that ends well appends 8 + n for its file bytes, then 9 for a table
-- byte."
unfoldable pub cost : List Write → ℕ
cost [] = 0
cost (w ∷ ws) = entry_bytes (length w.new) + cost ws

-- the memory that an entry's bytes came from
unfoldable pub memory_for : Entry → Memory
memory_for e = pick (eqb e.kind holds_table_byte) Table Files

-- an entry's old bytes are given back
unfoldable pub restore_one : Entry → Card → Card
restore_one e c = with_memory (memory_for e) c (overwrite (memory_of (memory_for e) c) e.place e.old)

-- "restores entries newest first"
unfoldable pub restore : List Entry → Card → Card
restore [] c = c
restore (e ∷ es) c = restore es (restore_one e c)

-- of entries, newest first: those "to the newest mark"
unfoldable pub since_mark : List Entry → List Entry
since_mark [] = []
since_mark (e ∷ es) = pick (is_mark e) [] (e ∷ since_mark es)

-- and those older than it
unfoldable pub behind_mark : List Entry → List Entry
behind_mark [] = []
behind_mark (e ∷ es) = pick (is_mark e) es (behind_mark es)

-- the bytes that entries take
unfoldable pub bytes_taken : List Entry → ℕ
bytes_taken [] = 0
bytes_taken (e ∷ es) = entry_bytes (length e.old) + bytes_taken es

-- a journal cut back to a head: the bytes of entries that it counts are left, the rest is zero
unfoldable pub cut_back : List ℕ → Head → List ℕ
cut_back j h = head_bytes h ++ (part j head_size h.used ++ zeros (length j - (head_size + h.used)))

-- "A take-back restores entries newest first to the newest mark, drops it and zeros the freed bytes."; "room given back is used again"
unfoldable pub taken_back : Card → Card
taken_back c =
    with_journal
    (restore (since_mark (entries_of c.journal)) c)
    (cut_back c.journal (head (bytes_taken (behind_mark (entries_of c.journal))) (scripts_on_trial c.journal - 1) 0))

-- "A confirmation zeros the journal."
unfoldable pub confirmed : Card → Card
confirmed c = with_journal c (zeros (length c.journal))

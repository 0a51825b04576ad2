-- Bytes put into a memory of a card: beside another journal, their lengths, and put back; and a write as such. Assumes nothing.
use mathlib.Core.Path.{◌≡◌, refl, sym, ap, ◌∙◌}
use mathlib.Core.Bool.{false}
use mathlib.Core.List.{List}
use Prim.Native.Nat.{ℕ, ◌+◌, ◌≤◌}
use lib.Dec.{eqb}
use lib.ListN.{length}
use Rattle.octets.specs.Choice.{pick}
use Rattle.octets.specs.Bytes.{part, overwrite}
use Rattle.octets.proofs.Writes.{undo, write-length}
use Rattle.card.specs.Row.{Card}
use Rattle.journal.specs.Entries.{marks_start, holds_table_byte, is_mark, scripts_on_trial}
use Rattle.journal.specs.declared.Memory.{Memory}
use Rattle.journal.specs.declared.Memory.TheVariants.{Files, Table}
use Rattle.journal.specs.Changes.{Write, memory_of, with_journal, with_memory, pushed, kind_for, entry_for, write, memory_for, restore_one}

-- bytes at a place of a memory
unfoldable pub put : Memory → ℕ → List ℕ → Card → Card
put m p d c = with_memory m c (overwrite (memory_of m c) p d)

pub memory_beside : (m : Memory) (c : Card) (j : List ℕ) → memory_of m (with_journal c j) ≡ memory_of m c
unfolding memory_of with_journal
memory_beside Files c j = refl
memory_beside Table c j = refl

pub put_beside : (m : Memory) (p : ℕ) (d : List ℕ) (c : Card) (j : List ℕ) → put m p d (with_journal c j) ≡ with_journal (put m p d c) j
unfolding put with_memory memory_of with_journal
put_beside Files p d c j = refl
put_beside Table p d c j = refl

-- a memory of two cards whose memories have the same lengths
pub memory-length : (m : Memory) (c d : Card) → length c.table ≡ length d.table → length c.files ≡ length d.files → length (memory_of m c) ≡ length (memory_of m d)
unfolding memory_of
memory-length Files c d t f = f
memory-length Table c d t f = t

-- bytes that fit there
pub put_undo : (m : Memory) (p : ℕ) (d : List ℕ) (c : Card) → p + length d ≤ length (memory_of m c) → put m p (part (memory_of m c) p (length d)) (put m p d c) ≡ c
unfolding put with_memory memory_of
put_undo Files p d c fits = λ i. record { table = c.table; files = undo c.files p d fits i; journal = c.journal }
put_undo Table p d c fits = λ i. record { table = undo c.table p d fits i; files = c.files; journal = c.journal }

pub put_length : (m n : Memory) (p : ℕ) (d : List ℕ) (c : Card) → p + length d ≤ length (memory_of n c) → length (memory_of m (put n p d c)) ≡ length (memory_of m c)
unfolding put with_memory memory_of
put_length Files Files p d c fits = write-length c.files p d fits
put_length Files Table p d c fits = refl
put_length Table Files p d c fits = refl
put_length Table Table p d c fits = write-length c.table p d fits

-- a write is such bytes and another journal
with_both : (m : Memory) (c : Card) (j k : List ℕ) → with_memory m (with_journal c j) k ≡ with_journal (with_memory m c k) j
unfolding with_memory with_journal
with_both Files c j k = refl
with_both Table c j k = refl

kind-memory : (m : Memory) → pick (eqb (kind_for m) holds_table_byte) Table Files ≡ m
unfolding kind_for pick
kind-memory Files = refl
kind-memory Table = refl

kind_no_mark : (m : Memory) → eqb (kind_for m) marks_start ≡ false
unfolding kind_for
kind_no_mark Files = refl
kind_no_mark Table = refl

module _ (w : Write) (c : Card) where
  -- the journal after it
  unfoldable pub after : List ℕ
  after = pushed c.journal (scripts_on_trial c.journal) (entry_for w c)

  pub write_put : write w c ≡ with_journal (put w.memory w.place w.new c) after
  unfolding write put after
  write_put = with_both w.memory c after (overwrite (memory_of w.memory c) w.place w.new)

  pub write-journal : (write w c).journal ≡ after
  unfolding with_journal
  write-journal = ap (λ (d : Card). d.journal) write_put

  entry-memory : memory_for (entry_for w c) ≡ w.memory
  unfolding memory_for entry_for
  entry-memory = kind-memory w.memory

  pub entry_no_mark : is_mark (entry_for w c) ≡ false
  unfolding entry_for
  entry_no_mark = kind_no_mark w.memory

  -- and its entry gives the old bytes back
  pub restore-write : w.place + length w.new ≤ length (memory_of w.memory c) → restore_one (entry_for w c) (write w c) ≡ with_journal c (write w c).journal
  unfolding restore_one put entry_for with_journal
  restore-write fits =
      let old = part (memory_of w.memory c) w.place (length w.new) in
      (λ i. put (entry-memory i) w.place old (write_put i))
      ∙ put_beside w.memory w.place old (put w.memory w.place w.new c) after
      ∙ ap (λ (d : Card). with_journal d after) (put_undo w.memory w.place w.new c fits) ∙ ap (with_journal c) (sym write-journal)

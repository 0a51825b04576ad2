-- What a write does to a card: to the lengths of its memories, to its journal's head and entries; and what it needs.
-- What a write needs of a card is `Writable`: the used bytes lie in the journal and are just those of its entries, and all lengths
-- are 16-bit numbers. A sound card has it; a mark, and a write that fits and finds room, keep it, as the journal grows by one entry
-- (`Grown`) and no length changes. So a list of writes goes by induction: room for all is room for the first (`room-first`), and
-- what is left after it is room for the others (`room_next`). Assumes nothing.
use mathlib.Core.Path.{◌≡◌, refl, ap, ◌∙◌}
use mathlib.Core.Bool.{true}
use mathlib.Core.List.{List, [], ◌∷◌}
use Prim.Native.Nat.{◌+◌, ◌≤◌, ◌<◌}
use native.Mathlib.Omega.{arith}
use lib.ListN.{length}
use Rattle.octets.proofs.Writes.{part_length}
use Rattle.card.specs.Row.{Card}
use Rattle.card.proofs.Promises.{few_bytes, few-entries, whole-entries}
use Rattle.journal.specs.Entries.{head_size, used_bytes, scripts_on_trial, entry_bytes, encode, mark, entries_of}
use Rattle.journal.specs.Promised.{HasRoom}
use Rattle.journal.specs.Sound.{sound_card}
use Rattle.journal.specs.declared.Memory.{Memory}
use Rattle.journal.specs.declared.Memory.TheVariants.{Files, Table}
use Rattle.journal.specs.Changes.{Write, memory_of, with_journal, marked, with_mark, entry_for, write, perform, cost, bytes_taken}
use Rattle.journal.proofs.Tails.{encode-length}
use Rattle.journal.proofs.Memories.{memory_beside, put, put_length, after, write_put, write-journal}
use Rattle.journal.proofs.Pushed.{Grown, pushed-grown, marked-grown}
use Rattle.journal.proofs.Parts.{used-inside, card-table, card_parts}
use Rattle.journal.proofs.Encoded.{sound_taken}

-- what a card needs, so that its journal holds what a write needs; a sound card has it
pub record Writable (c : Card) : Type 0 where
  pub used : head_size + used_bytes c.journal ≤ length c.journal
  pub short : length c.journal ≤ 65535
  pub exact : bytes_taken (entries_of c.journal) ≡ used_bytes c.journal
  pub near : (m : Memory) → length (memory_of m c) ≤ 65535

module _ (c : Card) (sound : sound_card c ≡ true) where
  sound_near : (m : Memory) → length (memory_of m c) ≤ 65535
  unfolding memory_of
  sound_near Files = omega (arith, few_bytes c.table c.files (card-table c sound))
  sound_near Table =
      omega (arith, few-entries c.table c.files (card-table c sound), whole-entries c.table c.files (card-table c sound))

  pub sound_writable : Writable c
  sound_writable =
      let p = card_parts c sound in
      record {
        used = used-inside c.table c.files c.journal p;
        short = omega arith;
        exact = sound_taken c.table c.files c.journal p;
        near = sound_near;
      }

-- it keeps it behind a mark
pub mark_writable : (c : Card) → Writable c → HasRoom c.journal (entry_bytes 0) → Writable (with_mark c)
unfolding with_journal bytes_taken mark
mark_writable c ok left =
    let g = marked-grown c.journal left ok.short in
    record {
      used = omega arith;
      short = omega arith;
      exact = rw (g.entries, g.used, ok.exact) (omega arith);
      near = λ m. rw (memory_beside m c (marked c.journal)) (ok.near m);
    }

-- one write that fits its memory
abbrev pub Fits : Write → Card → Type 0
Fits w c = w.place + length w.new ≤ length (memory_of w.memory c)

module _ (w : Write) (c : Card) (fits : Fits w c) where
  pub write_lengths : (m : Memory) → length (memory_of m (write w c)) ≡ length (memory_of m c)
  write_lengths m =
      ap (λ (d : Card). length (memory_of m d)) (write_put w c) ∙ ap length (memory_beside m (put w.memory w.place w.new c) (after w c))
      ∙ put_length m w.memory w.place w.new c fits

  pub old_takes : length (entry_for w c).old ≡ length w.new
  unfolding entry_for
  old_takes = part_length (memory_of w.memory c) w.place (length w.new) fits

  -- and the journal's room
  module _ (ok : Writable c) (left : HasRoom c.journal (entry_bytes (length w.new))) where
    pub entry-fits : HasRoom c.journal (length (encode (entry_for w c)))
    entry-fits = rw (encode-length (entry_for w c), old_takes) left

    pub entry_near : (entry_for w c).place < 65536
    unfolding entry_for
    entry_near = let n = ok.near w.memory in omega arith

    pub write-grown : Grown c.journal (write w c).journal (scripts_on_trial c.journal) (entry_for w c)
    unfolding after
    write-grown = rw (write-journal w c) (pushed-grown c.journal (scripts_on_trial c.journal) (entry_for w c) entry-fits ok.short entry_near)

    pub write_scripts : scripts_on_trial (write w c).journal ≡ scripts_on_trial c.journal
    write_scripts = write-grown.scripts

    write-used : used_bytes (write w c).journal ≡ used_bytes c.journal + entry_bytes (length w.new)
    write-used = rw old_takes at write-grown.used

    pub write_writable : Writable (write w c)
    unfolding bytes_taken
    write_writable =
        record {
          used = rw (write-used, write-grown.size) (omega arith);
          short = rw write-grown.size ok.short;
          exact = rw (write-grown.entries, write-grown.used, ok.exact) (omega arith);
          near = λ m. rw (write_lengths m) (ok.near m);
        }

-- what holds of each of a list of writes
abbrev pub All : (Write → Card → Type 0) → List Write → Card → Type 0
All P [] c = Unit {0}
All P (w ∷ ws) c = P w c × All P ws c

pub all_so : (P Q : Write → Card → Type 0) (ws : List Write) (c d : Card) → ((w : Write) → P w c → Q w d) → All P ws c → All Q ws d
all_so P Q [] c d one f = tt
all_so P Q (w ∷ ws) c d one f = (one w f.0, all_so P Q ws c d one f.1)

-- a list of writes, each of which fits its memory
abbrev pub AllFit : List Write → Card → Type 0
AllFit ws c = All Fits ws c

pub fit_kept : (ws : List Write) (c d : Card) → ((m : Memory) → length (memory_of m d) ≡ length (memory_of m c)) → AllFit ws c → AllFit ws d
fit_kept ws c d l = all_so Fits Fits ws c d (λ w f. rw (l w.memory) f)

-- the first of them, and those left after it
module _ (w : Write) (ws : List Write) (c : Card) (ok : Writable c) (left : HasRoom c.journal (cost (w ∷ ws))) where
  pub room-first : HasRoom c.journal (entry_bytes (length w.new))
  unfolding cost
  room-first = omega arith

  pub room_next : Fits w c → HasRoom (write w c).journal (cost ws)
  unfolding cost
  room_next fits = rw (write-used w c fits ok room-first, (write-grown w c fits ok room-first).size) (omega arith)

-- what one write leaves the same, a list of writes does
pub perform-same : {A : Type 0} (f : Card → A) → ((w : Write) (c : Card) → Fits w c → Writable c → HasRoom c.journal (entry_bytes (length w.new)) → f (write w c) ≡ f c) → (ws : List Write) (c : Card) → AllFit ws c → Writable c → HasRoom c.journal (cost ws) → f (perform ws c) ≡ f c
unfolding perform
perform-same f one [] c fits ok left = refl
perform-same f one (w ∷ ws) c fits ok left =
    let first = room-first w ws c ok left in
    perform-same f one ws (write w c) (fit_kept ws c (write w c) (write_lengths w c fits.0) fits.1) (write_writable w c fits.0 ok first)
    (room_next w ws c ok left fits.0)
    ∙ one w c fits.0 ok first

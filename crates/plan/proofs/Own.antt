-- A write belongs to a root where it goes into the bytes of an entry that does: into its 16 bytes of the table, or into its file's part
-- of the file memory. Such writes leave the bytes of every entry of another root as they were, in both memories.
-- The bytes of two entries lie apart, in the table by their numbers and in the file memory because the table is sound (`apart`). So
-- what is one entry's lies in front of a write to another's, or behind it, and stays (`past`); a list of writes goes by induction, as
-- a write that lies in its memory keeps all lengths. Assumes nothing.
use mathlib.Core.Path.{◌≡◌, refl, ap, ◌∙◌}
use mathlib.Core.Bool.{true}
use mathlib.Core.List.{List, [], ◌∷◌}
use mathlib.Core.Logic.{◌⊎◌, inl, inr, ⊎_elim}
use Prim.Native.Nat.{ℕ, ◌+◌, ◌*◌, ◌≤◌, ◌<◌}
use native.Mathlib.Decide.{dec_lt}
use native.Mathlib.Omega.{arith}
use lib.ListN.{length}
use Rattle.octets.specs.Bytes.{part, overwrite}
use Rattle.octets.proofs.Picks.{either}
use Rattle.octets.proofs.Writes.{part-before, part-after}
use Rattle.card.specs.Row.{Card, entry_size, entries, row_of, is_directory}
use Rattle.card.specs.Sound.{own_sound, sound_table}
use Rattle.card.specs.Tree.{root_of}
use Rattle.card.proofs.Promises.{directory-start, directory-size, file-inside, entry_own, no_directory-file, lie_apart_lem}
use Rattle.journal.specs.declared.Memory.{Memory}
use Rattle.journal.specs.declared.Memory.TheVariants.{Files, Table}
use Rattle.journal.specs.Changes.{Write, memory_of, with_journal, with_memory, write, perform}
use Rattle.journal.proofs.Written.{Fits, All, write_lengths}
use Rattle.session.specs.Good.{Belongs}
use Rattle.command.specs.declared.Outcome.{Outcome}
use Rattle.command.specs.declared.Outcome.TheVariants.{Well, FromFiles, FromWaiting, Error}

-- where the bytes of an entry begin in a memory, and how many they are
abbrev pub place_in : Memory → List ℕ → ℕ → ℕ
place_in Files t e = (row_of t e).start
place_in Table t e = entry_size * e

abbrev pub size_in : Memory → List ℕ → ℕ → ℕ
size_in Files t e = (row_of t e).size
size_in Table t e = entry_size

-- a write into bytes of an entry that belongs to a root
pub record Own (root : ℕ) (w : Write) (c : Card) : Type 0 where
  pub owner : ℕ
  pub belongs : Belongs c.table root owner
  pub least : place_in w.memory c.table owner ≤ w.place
  pub most : w.place + length w.new ≤ place_in w.memory c.table owner + size_in w.memory c.table owner

abbrev pub AllOwn : ℕ → List Write → Card → Type 0
AllOwn root ws c = All (Own root) ws c

-- the bytes that an outcome takes from the file memory are those of a file
unfoldable pub ReadsOwn : List ℕ → ℕ → Outcome → Type 0
ReadsOwn t file (Well word) = Unit
ReadsOwn t file (FromFiles word place n) =
    (1 ≤ file) × ((row_of t file).start ≤ place) × (place + n ≤ (row_of t file).start + (row_of t file).size)
ReadsOwn t file (FromWaiting word n) = Unit
ReadsOwn t file (Error k) = Unit

module _ (card : Card) (sound : sound_table card.table card.files ≡ true) where
  abbrev t : List ℕ
  t = card.table

  -- the bytes of an entry lie in their memory, and apart from those of another
  inside : (m : Memory) (e : ℕ) → e < entries t → place_in m t e + size_in m t e ≤ length (memory_of m card)
  unfolding memory_of
  inside Table e here = omega arith
  inside Files e here =
      ⊎_elim
      (λ y. let a = directory-start (length card.files) (row_of t e) own y in let b = directory-size (length card.files) (row_of t e) own y in omega arith)
      (λ n. file-inside (length card.files) (row_of t e) own (no_directory-file t card.files sound e here n))
      (either (is_directory (row_of t e)))
    where
      own : own_sound (length card.files) (row_of t e) ≡ true
      own = entry_own t card.files sound e here

  apart : (m : Memory) (d e : ℕ) → d < entries t → e < entries t → (d ≡ e → ⊥)
      → (place_in m t d + size_in m t d ≤ place_in m t e) ⊎ (place_in m t e + size_in m t e ≤ place_in m t d)
  apart Files d e there here z = lie_apart_lem t card.files sound d e there here z
  apart Table d e there here z = elim (dec_lt d e) [ yes l ↦ inl (omega arith) | no g ↦ inr (omega arith) ]

  module _ (root d : ℕ) (there : d < entries t) (other : root_of t d ≡ root → ⊥) where
    -- the bytes of the entry `d` in some bytes of a memory
    abbrev its : Memory → List ℕ → List ℕ
    its m bytes = part bytes (place_in m t d) (size_in m t d)

    past : (m : Memory) (bytes : List ℕ) (place : ℕ) (new : List ℕ) → length bytes ≡ length (memory_of m card) → (e : ℕ) → Belongs t root e
        → place_in m t e ≤ place → place + length new ≤ place_in m t e + size_in m t e → its m (overwrite bytes place new) ≡ its m bytes
    past m bytes place new long e b least most =
        let lies = inside m e b.inside in
        let fits : place + length new ≤ length bytes = omega arith in
        ⊎_elim
        (λ h. part-before bytes place new fits (place_in m t d) (size_in m t d) (omega arith))
        (λ h. part-after bytes place new fits (place_in m t d) (size_in m t d) (omega arith))
        (apart m d e there b.inside (λ q. other (ap (root_of t) q ∙ b.owner)))

    -- one write
    write_leaves : (m n : Memory) (place : ℕ) (new : List ℕ) (c : Card) → length (memory_of m c) ≡ length (memory_of m card)
        → Own root (record { memory = n; place = place; new = new }) card → its m (memory_of m (write (record { memory = n; place = place; new = new }) c)) ≡ its m (memory_of m c)
    unfolding write with_memory with_journal memory_of
    write_leaves Files Files place new c long own = past Files c.files place new long own.owner own.belongs own.least own.most
    write_leaves Files Table place new c long own = refl
    write_leaves Table Files place new c long own = refl
    write_leaves Table Table place new c long own = past Table c.table place new long own.owner own.belongs own.least own.most

    own_fits : (w : Write) (c : Card) → ((m : Memory) → length (memory_of m c) ≡ length (memory_of m card)) → Own root w card → Fits w c
    own_fits w c long own =
        let lies = inside w.memory own.owner own.belongs.inside in
        let least = own.least in
        let most = own.most in
        omega (arith, long w.memory)

    -- a list of writes
    leaves : (ws : List Write) (c : Card) → ((m : Memory) → length (memory_of m c) ≡ length (memory_of m card)) → AllOwn root ws card
        → (m : Memory) → its m (memory_of m (perform ws c)) ≡ its m (memory_of m c)
    unfolding perform
    leaves [] c long own m = refl
    leaves (w ∷ ws) c long own m =
        leaves ws (write w c) (λ k. write_lengths w c (own_fits w c long own.0) k ∙ long k) own.1 m
        ∙ write_leaves m w.memory w.place w.new c (long m) own.0

    pub perform_leaves : (ws : List Write) → AllOwn root ws card → (m : Memory) → its m (memory_of m (perform ws card)) ≡ its m (memory_of m card)
    perform_leaves ws = leaves ws card (λ m. refl)

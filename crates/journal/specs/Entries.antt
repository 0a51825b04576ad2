-- "The journal has 2,048 bytes: 0-1 used bytes U (at most 2,044), 2 scripts on trial (0 to 16), 3 zero, then entries".
use Rattle.std.specs.Prelude.{ℕ, zero, suc, ◌+◌, ◌-◌, Bool, true, false, ◌&&◌, List, [], ◌∷◌, ◌++◌, length, leb, eqb}
use Rattle.octets.specs.Bytes.{byte, num_at, bytes2, part, same}
use Rattle.journal.specs.declared.Head.{Head}
use Rattle.journal.specs.declared.Tail.{Tail}

-- the head, and its four bytes
abbrev pub head : ℕ → ℕ → ℕ → Head
head used scripts flag = record { used = used; scripts = scripts; flag = flag }

abbrev pub head_size : ℕ
head_size = 4

unfoldable pub head_bytes : Head → List ℕ
head_bytes h = bytes2 h.used ++ (h.scripts ∷ h.flag ∷ [])

-- "used bytes U"
unfoldable pub used_bytes : List ℕ → ℕ
used_bytes j = num_at j 0

-- "scripts on trial"
unfoldable pub scripts_on_trial : List ℕ → ℕ
scripts_on_trial j = byte j 2

-- "3 zero"
unfoldable pub flag_of : List ℕ → ℕ
flag_of j = byte j 3

-- what a journal's head holds
abbrev pub head_of : List ℕ → Head
head_of j = head (used_bytes j) (scripts_on_trial j) (flag_of j)

-- "U (at most 2,044)": what is left of the journal after its head
unfoldable pub room : List ℕ → ℕ
room j = length j - head_size

-- "An entry is n old bytes and an 8-byte tail"
pub record Entry : Type 0 where
  pub kind : ℕ
  pub place : ℕ
  pub old : List ℕ

abbrev pub entry_of : ℕ → ℕ → List ℕ → Entry
entry_of kind place old = record { kind = kind; place = place; old = old }

abbrev pub tail_size : ℕ
tail_size = 8

-- "8-byte tail: kind, 0, place (2), n (2), 0, 0"
unfoldable pub tail : ℕ → ℕ → ℕ → List ℕ
tail kind place n = kind ∷ 0 ∷ (bytes2 place ++ (bytes2 n ++ (0 ∷ 0 ∷ [])))

-- an entry's bytes
unfoldable pub encode : Entry → List ℕ
encode e = e.old ++ tail e.kind e.place (length e.old)

-- how many bytes an entry takes that has n old bytes
abbrev pub entry_bytes : ℕ → ℕ
entry_bytes n = tail_size + n

-- "Kind 1 marks a script's start (n and place 0); kind 2 holds file memory bytes ..; kind 3 one table byte"
abbrev pub marks_start : ℕ
marks_start = 1

abbrev pub holds_file_bytes : ℕ
holds_file_bytes = 2

abbrev pub holds_table_byte : ℕ
holds_table_byte = 3

abbrev pub is_mark : Entry → Bool
is_mark e = eqb e.kind marks_start

-- "a script's start (n and place 0)": its mark
unfoldable pub mark : Entry
mark = entry_of marks_start 0 []

-- the bytes of the tail that ends where the first u bytes of entries end, and what they hold
unfoldable pub tail_bytes : List ℕ → ℕ → List ℕ
tail_bytes j u = part j (head_size + u - tail_size) tail_size

unfoldable pub tail_in : List ℕ → Tail
tail_in bs = record { kind = byte bs 0; place = num_at bs 2; size = num_at bs 4 }

unfoldable pub tail_at : List ℕ → ℕ → Tail
tail_at j u = tail_in (tail_bytes j u)

-- whether bytes have the form of a tail
unfoldable pub formed : List ℕ → Bool
formed bs = same bs (tail (tail_in bs).kind (tail_in bs).place (tail_in bs).size)

-- where the old bytes stand of the entry that ends there
unfoldable pub old_place : List ℕ → ℕ → ℕ
old_place j u = head_size + u - entry_bytes (tail_at j u).size

-- the entry that ends where the first u bytes of entries end
unfoldable pub entry_at : List ℕ → ℕ → Entry
entry_at j u =
    record {
      kind = (tail_at j u).kind;
      place = (tail_at j u).place;
      old = part j (old_place j u) (tail_at j u).size;
    }

-- whether a whole entry ends there: its bytes are there, and its tail has the form of a tail
unfoldable pub readable : List ℕ → ℕ → Bool
readable j u = leb (entry_bytes (tail_at j u).size) u && formed (tail_bytes j u)

-- what stands for bytes that are no entry; its kind is none
unfoldable pub no_entry : Entry
no_entry = entry_of 0 0 []

-- at most n entries, "read back from the end" of the first u bytes: newest first; the last is `no_entry` where they do not fill u exactly
unfoldable pub entries_back : ℕ → List ℕ → ℕ → List Entry
entries_back zero j u = []
entries_back (suc n) j u =
    elim (eqb u 0) [
      | true ↦ []
      | false ↦ elim (readable j u) [
        | true ↦ entry_at j u ∷ entries_back n j (u - entry_bytes (tail_at j u).size)
        | false ↦ no_entry ∷ []
      ]
    ]

-- a journal's entries, newest first; each takes some of its used bytes, so there are no more of them than used bytes
unfoldable pub entries_of : List ℕ → List Entry
entries_of j = entries_back (used_bytes j) j (used_bytes j)

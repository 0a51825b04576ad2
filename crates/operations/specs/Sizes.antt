-- How many bytes a script has, said of its operations before anything is written; and what an operation that is carried promises to the
-- writer.
use Rattle.std.specs.Prelude.{ℕ, ◌+◌, ◌*◌, ◌≤◌, ◌<◌, ◌≡◌, true, false, List, [], ◌∷◌, length, eqb, Result, Ok, Err}
use Rattle.octets.specs.Choice.{pick}
use Rattle.tlv.specs.Lengths.{length_bytes}
use Rattle.step.specs.Limits.{longest_script}
use Rattle.operations.specs.declared.rows.Operation.{Operation}
use Rattle.operations.specs.declared.Refusal.{Refusal}
use Rattle.operations.specs.declared.Refusal.TheVariants.{NotAList, NotCarried, TooLong, NoRoom}
use Rattle.operations.specs.Rows.{most_operations, is_read, is_list, operations_of}
use Rattle.operations.specs.Carried.{first_not_carried}
use Rattle.operations.specs.Scripts.{p1_of, p2_of, has_le}

-- the bytes of a header
abbrev pub header_size : ℕ
header_size = 5

unfoldable pub compact_size : Operation → ℕ
compact_size o = pick (is_read o.kind) header_size (header_size + o.count)

unfoldable pub capdu_size : Operation → ℕ
capdu_size o = pick (has_le o.kind) (compact_size o + 1) (compact_size o)

-- a value with its tag and its length
unfoldable pub tlv_size : ℕ → ℕ
tlv_size n = 1 + length (length_bytes n) + n

unfoldable pub written_size : ℕ → Operation → ℕ
written_size format o = pick (eqb format 0) (compact_size o) (tlv_size (capdu_size o))

-- the most bytes that an operation takes, also one that no format carries: tag, length, header, Le, and as many bytes as two bytes count
abbrev pub most_written : ℕ
most_written = 65545

unfoldable pub all_size : ℕ → List Operation → ℕ
all_size format [] = 0
all_size format (o ∷ os) = written_size format o + all_size format os

-- the script whose operations take n bytes
unfoldable pub script_size : ℕ → ℕ → ℕ
script_size format n = pick (eqb format 0) n (tlv_size n)

-- what measuring a list beside `size` bytes of data gives: the bytes of all its operations; or the first that is not carried
unfoldable pub Measures : ℕ → ℕ → List Operation → Result ℕ Refusal → Type 0
Measures format size os (Ok n) =
    (first_not_carried format size 1 os ≡ 0) × (n ≡ all_size format os) × (n ≤ most_operations * most_written)
Measures format size os (Err (NotCarried bad)) =
    (bad ≡ first_not_carried format size 1 os) × (1 ≤ bad) × (bad ≤ most_operations)
Measures format size os (Err NotAList) = ⊥
Measures format size os (Err TooLong) = ⊥
Measures format size os (Err NoRoom) = ⊥

-- an operation that is carried beside `size` bytes of data: its parameters are bytes, and what it brings lies in the data
pub record Carried (size : ℕ) (o : Operation) : Type 0 where
  pub p1 : p1_of o < 256
  pub p2 : p2_of o < 256
  pub count : o.count < 256
  pub inside : is_read o.kind ≡ false → o.from + o.count ≤ size

-- what the writer of a script asks of a list beside its data: it is one, all its operations are carried and take `size` bytes, the engine
-- takes the script, and the memory has room for it
pub record Writable (format size : ℕ) (rows «data» memory : List ℕ) : Type 0 where
  pub list : is_list (length rows) ≡ true
  pub carried : first_not_carried format (length «data») 1 (operations_of rows) ≡ 0
  pub sized : size ≡ all_size format (operations_of rows)
  pub short : script_size format size ≤ longest_script
  pub room : script_size format size ≤ length memory

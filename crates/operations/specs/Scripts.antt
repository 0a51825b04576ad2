-- The script of a list of operations: "and writes a compact or expanded script".
use Rattle.std.specs.Prelude.{ℕ, ◌/◌, ◌%◌, Bool, ◌||◌, List, [], ◌∷◌, ◌++◌, length, eqb}
use Rattle.octets.specs.Choice.{pick}
use Rattle.octets.specs.Bytes.{part}
use Rattle.tlv.specs.Lengths.{length_bytes}
use Rattle.command.specs.Instructions as ins
use Rattle.operations.specs.declared.rows.Operation.{Operation}
use Rattle.operations.specs.Rows.{select, update, read, update_record, read_record, increase, search, is_read, is_binary}

-- the instruction of a kind
unfoldable pub instruction_of : ℕ → ℕ
instruction_of kind =
    pick (eqb kind select) ins.select
    (pick (eqb kind update) ins.update_binary
    (pick (eqb kind read) ins.read_binary
    (pick (eqb kind update_record) ins.update_record
    (pick (eqb kind read_record) ins.read_record (pick (eqb kind increase) ins.increase ins.search)))))

-- "P1 08 from the root"
abbrev pub from_root : ℕ
from_root = 0x08

-- P1 and P2: of SELECT 08 and 0C; the offset; else the record number and the mode, which INCREASE has as 0
unfoldable pub p1_of : Operation → ℕ
p1_of o = pick (eqb o.kind select) from_root (pick (is_binary o.kind) (o.number / 256) o.number)

unfoldable pub p2_of : Operation → ℕ
p2_of o = pick (eqb o.kind select) ins.no_data (pick (is_binary o.kind) (o.number % 256) o.mode)

-- the five bytes of a header
unfoldable pub header_of : Operation → List ℕ
header_of o =
    ins.class_of (instruction_of o.kind) ∷ instruction_of o.kind ∷ p1_of o ∷ p2_of o ∷ o.count ∷ []

-- the bytes that an operation brings: none for a read
unfoldable pub bytes_of : List ℕ → Operation → List ℕ
bytes_of «data» o = pick (is_read o.kind) [] (part «data» o.from o.count)

-- Le, which case 4 has: 00 behind INCREASE and SEARCH
abbrev pub has_le : ℕ → Bool
has_le kind = eqb kind increase || eqb kind search

unfoldable pub le_of : ℕ → List ℕ
le_of kind = pick (has_le kind) (0 ∷ []) []

-- an operation as a command of a compact script, as a C-APDU, and as the TLV of that in a template
unfoldable pub compact_of : List ℕ → Operation → List ℕ
compact_of «data» o = header_of o ++ bytes_of «data» o

unfoldable pub capdu_of : List ℕ → Operation → List ℕ
capdu_of «data» o = header_of o ++ (bytes_of «data» o ++ le_of o.kind)

unfoldable pub tlv_of : List ℕ → List ℕ
tlv_of capdu = 0x22 ∷ (length_bytes (length capdu) ++ capdu)

unfoldable pub written_as : ℕ → List ℕ → Operation → List ℕ
written_as format «data» o = pick (eqb format 0) (compact_of «data» o) (tlv_of (capdu_of «data» o))

-- the operations one behind the other
unfoldable pub all_written : ℕ → List ℕ → List Operation → List ℕ
all_written format «data» [] = []
all_written format «data» (o ∷ os) = written_as format «data» o ++ all_written format «data» os

-- the script: of an expanded one that is the value of a template AA
unfoldable pub templated : List ℕ → List ℕ
templated value = 0xAA ∷ (length_bytes (length value) ++ value)

unfoldable pub script_of : ℕ → List ℕ → List Operation → List ℕ
script_of format «data» os =
    pick (eqb format 0) (all_written format «data» os) (templated (all_written format «data» os))

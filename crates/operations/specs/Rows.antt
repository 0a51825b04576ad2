-- "Add a builder that takes a list of file operations (select by path, update, read, increase, search)": the list as bytes, 8 for each
-- operation. Byte 0 has its kind, 1 its mode, 2-3 an offset or a record number, 4-5 where its bytes begin in the data beside the list, 6-7
-- how many there are.
use Rattle.std.specs.Prelude.{ℕ, zero, suc, ◌+◌, ◌*◌, ◌/◌, ◌%◌, ◌<◌, Bool, ◌&&◌, ◌||◌, List, [], ◌∷◌, length, leb, eqb}
use Rattle.octets.specs.Bytes.{byte, num_at}
use Rattle.operations.specs.declared.rows.Operation.{Operation}

-- the kinds of operation
abbrev pub select : ℕ
select = 1

abbrev pub update : ℕ
update = 2

abbrev pub read : ℕ
read = 3

abbrev pub update_record : ℕ
update_record = 4

abbrev pub read_record : ℕ
read_record = 5

abbrev pub increase : ℕ
increase = 6

abbrev pub search : ℕ
search = 7

-- the modes of a record operation, "02 next, 03 previous .., 04 absolute", and the ways of a search, 04 forward and 05 backward
abbrev pub next : ℕ
next = 2

abbrev pub previous : ℕ
previous = 3

abbrev pub absolute : ℕ
absolute = 4

abbrev pub forward : ℕ
forward = 4

abbrev pub backward : ℕ
backward = 5

-- the kinds that hand out bytes, that work at an offset, that name a record
abbrev pub is_read : ℕ → Bool
is_read kind = eqb kind read || eqb kind read_record

abbrev pub is_binary : ℕ → Bool
is_binary kind = eqb kind update || eqb kind read

abbrev pub is_record : ℕ → Bool
is_record kind = eqb kind update_record || eqb kind read_record

-- the bytes of an operation in the list
abbrev pub row_size : ℕ
row_size = 8

-- the operation that stands in the list at a number, from 0
unfoldable pub operation_at : List ℕ → ℕ → Operation
operation_at list i =
    record {
      kind = byte list (row_size * i);
      mode = byte list (row_size * i + 1);
      number = num_at list (row_size * i + 2);
      from = num_at list (row_size * i + 4);
      count = num_at list (row_size * i + 6);
    }

-- the operations of a list: n of them from a number on, and all
unfoldable pub operations_from : ℕ → List ℕ → ℕ → List Operation
operations_from zero list i = []
operations_from (suc n) list i = operation_at list i ∷ operations_from n list (i + 1)

-- how many operations so many bytes are
abbrev pub operations_in : ℕ → ℕ
operations_in size = size / row_size

unfoldable pub operations_of : List ℕ → List Operation
operations_of list = operations_from (operations_in (length list)) list 0

-- "not 1 to 40 operations"
abbrev pub most_operations : ℕ
most_operations = 40

-- whether so many bytes are whole operations, 1 to 40 of them
unfoldable pub is_list : ℕ → Bool
is_list size =
    eqb (size % row_size) 0 && (leb 1 (operations_in size) && leb (operations_in size) most_operations)

-- what reading an operation promises: its numbers are those of one byte and of two
pub record RowFits (o : Operation) : Type 0 where
  pub kind : o.kind < 256
  pub mode : o.mode < 256
  pub number : o.number < 65536
  pub from : o.from < 65536
  pub count : o.count < 65536

-- What promises speak of besides the rules: the bounds of a row, where parents stand, and what a record's offset asks.
use Rattle.std.specs.Prelude.{ℕ, ◌≤◌, ◌<◌, ◌≡◌, Bool, false, List}
use Rattle.octets.specs.Choice.{all_below}
use Rattle.card.specs.declared.Row.{Row}
use Rattle.card.specs.Row.{entries, row_of}
use Rattle.card.specs.Sound.{record_count, pair_sound}
use Rattle.card.specs.Tree.{is_root}

-- the fields are bytes and 16-bit numbers
pub record RowFits (r : Row) : Type 0 where
  pub identifier : r.identifier < 65536
  pub parent : r.parent < 256
  pub kind : r.kind < 256
  pub start : r.start < 65536
  pub size : r.size < 65536
  pub record_length : r.record_length < 256
  pub newest : r.newest < 256
  pub state : r.state < 256
  pub eleven : r.eleven < 256
  pub never : r.never < 256
  pub thirteen : r.thirteen < 65536
  pub fifteen : r.fifteen < 256

-- below an application's root a parent's number is smaller than its child's
abbrev pub ParentsSmaller : List ℕ → Type 0
ParentsSmaller t = (e : ℕ) → e < entries t → is_root (row_of t e) ≡ false → (row_of t e).parent < e

-- every parent is an entry of the table
abbrev pub ParentsInside : List ℕ → Type 0
ParentsInside t = (e : ℕ) → e < entries t → (row_of t e).parent < entries t

-- entry e of a table is sound beside each before it
unfoldable pub earlier_sound : List ℕ → ℕ → Bool
earlier_sound t e = all_below e (λ d. pair_sound (row_of t d) (row_of t e))

-- the offset of record r asks that the row's fields are bytes and 16-bit numbers, that its records are not empty, and that it has a
-- record r
pub record RecordOffsetAsks (f : Row) (r : ℕ) : Type 0 where
  pub row : RowFits f
  pub least : 1 ≤ f.record_length
  pub first : 1 ≤ r
  pub last : r ≤ record_count f

-- "A cyclic file with m records and newest place k has record r at place (k + r - 1) mod m."
use Rattle.std.specs.Prelude.{ℕ, ◌+◌, ◌-◌, ◌*◌, ◌%◌}
use Rattle.card.specs.declared.Row.{Row}
use Rattle.card.specs.Sound.{record_count}

-- the place of record r among m, with the newest at place k
unfoldable pub cyclic_place : ℕ → ℕ → ℕ → ℕ
cyclic_place m k r = (k + r - 1) % m

-- the place of record r in a file; a linear file has its newest place 0 and so record r at place r - 1
unfoldable pub record_place : Row → ℕ → ℕ
record_place f r = cyclic_place (record_count f) f.newest r

-- where record r begins in its file
unfoldable pub record_offset : Row → ℕ → ℕ
record_offset f r = f.record_length * record_place f r

-- the place of the oldest record, which is the last by number
unfoldable pub oldest_place : Row → ℕ
oldest_place f = record_place f (record_count f)

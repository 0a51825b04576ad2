-- What promises speak of besides the rules: what the FCP and finding an entry ask.
use Rattle.std.specs.Prelude.{ℕ, ◌≤◌, ◌<◌, List}
use Rattle.card.specs.declared.Row.{Row}
use Rattle.card.specs.Row.{entries}
use Rattle.card.specs.Sound.{record_count}
use Rattle.card.specs.Promised.{ParentsInside}

-- what the FCP needs of an entry, and every entry of a sound table has: a kind, and as a record file records that a byte counts
pub record FcpFits (r : Row) : Type 0 where
  pub least : 1 ≤ r.kind
  pub most : r.kind ≤ 6
  pub records : 5 ≤ r.kind → (1 ≤ r.record_length) × (record_count r < 256)

-- a search starts from a root and a directory of the table, in which every parent is an entry
pub record StandsIn (t : List ℕ) (root directory : ℕ) : Type 0 where
  pub root_inside : root < entries t
  pub directory_inside : directory < entries t
  pub parents_inside : ParentsInside t

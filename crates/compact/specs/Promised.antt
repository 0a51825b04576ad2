-- What promises speak of besides the rules: where a command that was read lies.
use Rattle.std.specs.Prelude.{ℕ, ◌≤◌, ◌<◌, List, length}
use Rattle.command.specs.declared.Reading.{Reading}
use Rattle.command.specs.Promised.{OfBytes}
use Rattle.compact.specs.Compact.{place_after}

-- what a reading at a place of a script of bytes promises: its data lie in the script, the next place is further on, and its numbers are bytes
pub record ReadingFits (script : List ℕ) (at : ℕ) (r : Reading) : Type 0 where
  pub inside : place_after r ≤ length script
  pub further : at < place_after r
  pub bytes : OfBytes r.command r.size

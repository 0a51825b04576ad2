-- What promises speak of besides the rules: numbers that are bytes, and where data lie.
use Rattle.std.specs.Prelude.{ℕ, ◌+◌, ◌≤◌, ◌<◌}
use Rattle.card.specs.Sound.{most_file_bytes}
use Rattle.session.specs.Session.{most_waiting}
use Rattle.command.specs.declared.Command.{Command}
use Rattle.command.specs.declared.Outcome.{Outcome}
use Rattle.command.specs.declared.Outcome.TheVariants.{Well, FromFiles, FromWaiting, Error}

-- a command's parameters and the number of its data bytes are bytes
pub record OfBytes (c : Command) (lc : ℕ) : Type 0 where
  pub p1 : c.p1 < 256
  pub p2 : c.p2 < 256
  pub p3 : c.p3 < 256
  pub brief : lc < 256

-- the data of an outcome lie in a file memory of `files` bytes, and are no more than a file memory can have; or they are waiting bytes,
-- `most_waiting` at most
unfoldable pub OutcomeFits : ℕ → Outcome → Type 0
OutcomeFits files (Well word) = Unit
OutcomeFits files (FromFiles word place n) = (place + n ≤ files) × (n ≤ most_file_bytes)
OutcomeFits files (FromWaiting word n) = n ≤ most_waiting
OutcomeFits files (Error k) = Unit

-- What a command comes to: the ways in which its plan can end.
use Rattle.std.specs.Prelude.{ℕ, List, [], length}
use Rattle.journal.specs.Changes.{Write}
use Rattle.session.specs.declared.Standing.{Standing}
use Rattle.session.specs.Session.{waits, dropped}
use Rattle.command.specs.declared.Format.{Format}
use Rattle.command.specs.declared.Format.TheVariants.{Compact, Expanded}
use Rattle.command.specs.declared.checks.Check.{Check}
use Rattle.command.specs.declared.Outcome.{Outcome}
use Rattle.command.specs.declared.Outcome.TheVariants.{Well, FromFiles, FromWaiting, Error}
use Rattle.command.specs.Outcomes.{bytes_wait}

-- what a command does: the session after it, how it ends, the data that it puts down as the first waiting bytes, and what it writes
pub record Plan : Type 0 where
  pub session : Standing
  pub outcome : Outcome
  pub made : List ℕ
  pub writes : List Write

-- "or with an error word, changing nothing": the word of a check that failed
unfoldable pub failed : Standing → Check → Plan
failed s k = record { session = s; outcome = Error k; made = []; writes = [] }

-- well, with a word and no data; what waited is dropped
unfoldable pub done : Standing → ℕ → List Write → Plan
done s word writes = record { session = dropped s; outcome = Well word; made = []; writes = writes }

-- well, with a part of the file memory
unfoldable pub handed : Standing → ℕ → ℕ → ℕ → Plan
handed s word place n = record { session = dropped s; outcome = FromFiles word place n; made = []; writes = [] }

-- well, with the first n waiting bytes; the session stays
abbrev pub waited : Standing → ℕ → ℕ → Plan
waited s word n = record { session = s; outcome = FromWaiting word n; made = []; writes = [] }

-- compact: "SELECT with FCP, a successful search and INCREASE leave waiting bytes with their own word kept, and report 61 and
-- the length"; expanded: the data are handed out at once, and "Nothing ever waits."
unfoldable pub produced : Format → Standing → ℕ → List ℕ → List Write → Plan
produced Compact s word d writes =
    record { session = waits s (length d) word; outcome = Well (bytes_wait (length d)); made = d; writes = writes }
produced Expanded s word d writes =
    record { session = dropped s; outcome = FromWaiting word (length d); made = d; writes = writes }

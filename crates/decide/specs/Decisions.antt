-- One command: it ends with the word of the first check that fails, or does what its instruction says.
use Rattle.std.specs.Prelude.{ℕ, List, Result, Ok, Err}
use Rattle.card.specs.Row.{Card}
use Rattle.session.specs.declared.Standing.{Standing}
use Rattle.session.specs.Select.{find, row_found}
use Rattle.command.specs.declared.Format.{Format}
use Rattle.command.specs.declared.Command.{Command}
use Rattle.command.specs.declared.checks.Check.{Check}
use Rattle.plan.specs.Ends.{Plan, failed}
use Rattle.plan.specs.Files.{target, file_at}
use Rattle.plan.specs.Plans.{Situation, done_by}
use Rattle.decide.specs.Order.{order}
use Rattle.decide.specs.Fails.{first_failing}

-- the situation of a command on a card
unfoldable pub situation : Format → ℕ → Command → List ℕ → Standing → Card → Situation
situation format domain c «data» s card =
    record {
      format = format;
      domain = domain;
      command = c;
      «data» = «data»;
      session = s;
      found = find card.table s.root s.directory c.p1 «data»;
      row = row_found card.table (find card.table s.root s.directory c.p1 «data»);
      file = file_at card (target s);
    }

-- what comes of checks that are passed, or of the first that fails
unfoldable pub decided : Situation → Result (Unit {0}) Check → Plan
decided w (Ok passed) = done_by w.command.instruction w
decided w (Err k) = failed w.session k

-- what a command does in a situation
unfoldable pub planned : Situation → Plan
planned w = decided w (first_failing w (order w.command.instruction))

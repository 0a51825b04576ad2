-- One command on a card: its plan is carried out; and a script after some commands.
use Rattle.std.specs.Prelude.{ℕ, ◌+◌, List, Bool}
use Rattle.octets.specs.Bytes.{overwrite}
use Rattle.card.specs.Row.{Card}
use Rattle.journal.specs.Changes.{perform}
use Rattle.session.specs.declared.Session.{Session}
use Rattle.session.specs.Session.{session_of, start}
use Rattle.command.specs.declared.Format.{Format}
use Rattle.command.specs.declared.Command.{Command}
use Rattle.command.specs.declared.Outcome.{Outcome}
use Rattle.command.specs.declared.Outcome.TheVariants.{Well}
use Rattle.command.specs.declared.Step.{Step}
use Rattle.command.specs.Outcomes.{normal}
use Rattle.plan.specs.Ends.{Plan}
use Rattle.decide.specs.Decisions.{situation, planned}
use Rattle.step.specs.declared.lent.Ended.{Ended}
use Rattle.step.specs.Limits.{limited}

-- a session, an outcome and a card after a command
pub record Moved : Type 0 where
  pub session : Session
  pub outcome : Outcome
  pub card : Card

-- what a plan comes to that is done: its writes, with what it makes put to the front of the waiting bytes
unfoldable pub carried_out : Plan → List ℕ → Card → Moved
carried_out p waiting card =
    record {
      session = session_of p.session (overwrite waiting 0 p.made);
      outcome = p.outcome;
      card = perform p.writes card;
    }

-- a script after some commands, and the card
pub record State : Type 0 where
  pub step : Step
  pub card : Card

abbrev pub state_of : Step → Card → State
state_of step card = record { step = step; card = card }

-- how a script stands that has run no command
abbrev pub not_begun : Ended
not_begun = record { outcome = Well normal; count = 0 }

-- "Each script starts afresh."
unfoldable pub started : ℕ → Card → State
started application card =
    record {
      step = record { session = start application; outcome = not_begun.outcome; count = not_begun.count };
      card = card;
    }

-- "One session's directory, file, record number and waiting bytes move on with each command."; "The count includes the command that
-- stopped it."
unfoldable pub stepped : State → Moved → State
stepped st m =
    record {
      step = record { session = m.session; outcome = m.outcome; count = st.step.count + 1 };
      card = m.card;
    }

-- a session, an outcome and a card after a command
abbrev pub moved_to : Session → Outcome → Card → Moved
moved_to s outcome card = record { session = s; outcome = outcome; card = card }

-- what a command comes to in a session, with `kept` bytes of R-APDUs kept and its own counted or not: its plan, held to the 1,000
-- bytes, is carried out
abbrev pub commanded : Format → ℕ → Command → List ℕ → Session → ℕ → Bool → Card → Moved
commanded format domain c «data» s kept counts card =
    carried_out (limited kept counts s.standing (planned (situation format domain c «data» s.standing card))) s.waiting card

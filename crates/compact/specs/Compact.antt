-- "Compact": reading a script command by command, running it, and the answer.
use Rattle.std.specs.Prelude.{ℕ, zero, suc, ◌+◌, true, false, not, ◌&&◌, List, ◌∷◌, ◌++◌, length, leb, ltb, eqb}
use Rattle.octets.specs.Choice.{pick}
use Rattle.octets.specs.Bytes.{byte, bytes2, part}
use Rattle.card.specs.Row.{Card}
use Rattle.command.specs.declared.Format.TheVariants.{Compact}
use Rattle.command.specs.declared.Command.{Command}
use Rattle.command.specs.declared.Reading.{Reading}
use Rattle.command.specs.declared.Step.{Step}
use Rattle.command.specs.Instructions.{carries_data, case_of}
use Rattle.command.specs.Outcomes.{word_of, data_of, goes_on}
use Rattle.step.specs.Steps.{State, started, carried_out, stepped}
use Rattle.decide.specs.Decisions.{planned, situation}

-- "Five-byte headers"
abbrev pub header_size : ℕ
header_size = 5

-- "04 and 44 need P3 00": with another P3 they have the form of case 2
unfoldable pub compact_case : ℕ → ℕ → ℕ → ℕ
compact_case i p2 p3 = pick (eqb (case_of i p2) 1 && not (eqb p3 0)) 2 (case_of i p2)

-- how many data bytes stand after a header with the instruction `i` and `p3`
unfoldable pub data_behind : ℕ → ℕ → ℕ
data_behind i p3 = pick (carries_data i) p3 0

-- "Too few bytes: 6700, counted."
unfoldable pub broken : List ℕ → Reading
broken script =
    record {
      command =
          record {
            whole = false;
            class = 0;
            instruction = 0;
            p1 = 0;
            p2 = 0;
            p3 = 0;
            case = 0;
            after = false;
          };
      from = length script;
      size = 0;
    }

-- the command at the place `at` with the instruction `i`, whose header and `size` data bytes are there
unfoldable pub whole_at : List ℕ → ℕ → ℕ → ℕ → Reading
whole_at script at i size =
    record {
      command =
          record {
            whole = true;
            class = byte script at;
            instruction = i;
            p1 = byte script (at + 2);
            p2 = byte script (at + 3);
            p3 = byte script (at + 4);
            case = compact_case i (byte script (at + 3)) (byte script (at + 4));
            after = ltb (at + header_size + size) (length script);
          };
      from = at + header_size;
      size = size;
    }

-- the command whose header is there, with its data
unfoldable pub headed_at : List ℕ → ℕ → Reading
headed_at script at =
    let i : ℕ = byte script (at + 1) in
    let size : ℕ = data_behind i (byte script (at + 4)) in
    pick (leb (at + header_size + size) (length script)) (whole_at script at i size) (broken script)

-- the command that stands at the place `at` of a script
unfoldable pub read_at : List ℕ → ℕ → Reading
read_at script at = pick (leb (at + header_size) (length script)) (headed_at script at) (broken script)

-- the place after a command that was read
unfoldable pub place_after : Reading → ℕ
place_after r = r.from + r.size

-- a script's state after a command with its data: from the session and on the card that the ones before have left
abbrev pub step_with : ℕ → Command → List ℕ → State → State
step_with domain c «data» st =
    stepped st
    (carried_out (planned (situation Compact domain c «data» st.step.session.standing st.card)) st.step.session.waiting st.card)

-- a script's state after a command that was read
unfoldable pub step_read : List ℕ → ℕ → Reading → State → State
step_read script domain r st = step_with domain r.command (part script r.from r.size) st

-- a script's state after the command that stands at a place
abbrev pub step_at : List ℕ → ℕ → ℕ → State → State
step_at script domain at st = step_read script domain (read_at script at) st

-- "A script is read from front to back, once."; the state after the script's commands from a place on, `n` of them at most: a script ends where it has no more bytes, or
-- with a command whose word does not go on
unfoldable pub run_from : ℕ → List ℕ → ℕ → ℕ → State → State
run_from zero script domain at st = st
run_from (suc n) script domain at st =
    elim (ltb at (length script)) [
      | true ↦
          let next : State = step_at script domain at st in
          elim (goes_on (word_of next.step.outcome)) [
            | true ↦ run_from n script domain (place_after (read_at script at)) next
            | false ↦ next
          ]
      | false ↦ st
    ]

-- a whole script; each command takes a byte or more
unfoldable pub run : List ℕ → ℕ → ℕ → Card → State
run script application domain card = run_from (length script) script domain 0 (started application card)

-- "Answer: count, status, data of a last outgoing command."
unfoldable pub answer : Step → List ℕ → List ℕ
answer step files =
    step.count ∷ (bytes2 (word_of step.outcome) ++ data_of step.outcome files step.session.waiting)

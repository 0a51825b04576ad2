-- A script as the list of its commands, and what is there after each command that runs.
use Rattle.std.specs.Prelude.{ℕ, zero, suc, ◌+◌, Bool, true, false, List, [], ◌∷◌, ltb, length, Option, Some, None}
use Rattle.octets.specs.Bytes.{part}
use Rattle.card.specs.Row.{Card}
use Rattle.tlv.specs.declared.template.Template.{Template}
use Rattle.tlv.specs.declared.template.Template.TheVariants.{Definite, Indefinite}
use Rattle.tlv.specs.declared.template.Item.TheVariants.{Capdu, Bad, End}
use Rattle.tlv.specs.Templates.{item_at}
use Rattle.command.specs.declared.Command.{Command}
use Rattle.command.specs.declared.Reading.{Reading}
use Rattle.command.specs.Outcomes.{word_of, goes_on}
use Rattle.step.specs.Steps.{State, started}
use Rattle.compact.specs.Compact.{read_at, place_after, step_with}
use Rattle.expanded.specs.Expanded.{Progress, begun, step_capdu, step_bad}

-- what is there after each command that runs: the first one runs, and each next one if the one before it goes on
unfoldable pub after : {S R : Type 0} → (S → R → S) → (S → Bool) → S → List R → List S
after does on s [] = []
after does on s (r ∷ rs) = does s r ∷ elim (on (does s r)) [ true ↦ after does on (does s r) rs | false ↦ [] ]

-- the last of them, or what was there at first where none ran
unfoldable pub last_of : {S : Type 0} → S → List S → S
last_of s [] = s
last_of s (next ∷ rest) = last_of next rest

-- ---- compact

-- a command with its data
pub record Read : Type 0 where
  pub command : Command
  pub «data» : List ℕ

-- a command that stands in some bytes
unfoldable pub read_in : List ℕ → Reading → Read
read_in bytes r = record { command = r.command; «data» = part bytes r.from r.size }

-- the commands of a script from a place on, from front to back, `n` of them at most: neither card nor session is looked at
unfoldable pub commands_from : ℕ → List ℕ → ℕ → List Read
commands_from zero script at = []
commands_from (suc n) script at =
    elim (ltb at (length script)) [
      | true ↦ read_in script (read_at script at) ∷ commands_from n script (place_after (read_at script at))
      | false ↦ []
    ]

-- all of them: each takes a byte or more
unfoldable pub commands_of : List ℕ → List Read
commands_of script = commands_from (length script) script 0

-- a command is done: from the session and on the card that the ones before have left
unfoldable pub command_done : ℕ → State → Read → State
command_done domain st r = step_with domain r.command r.«data» st

-- "9000, 6282, 6283 and 61xx go on"
unfoldable pub word_goes_on : State → Bool
word_goes_on st = goes_on (word_of st.step.outcome)

-- the states after each command of a script that runs
unfoldable pub states_after : List ℕ → ℕ → ℕ → Card → List State
states_after script application domain card =
    after (command_done domain) word_goes_on (started application card) (commands_of script)

-- ---- expanded

-- what stands in a template: a C-APDU, or a bad format with its code
pub data Piece : Type 0 where
  capdu : List ℕ → Piece
  bad_format : ℕ → Piece

-- the pieces of a template's value from a place on, from front to back, `n` of them at most; nothing follows a bad format
unfoldable pub pieces_from : ℕ → List ℕ → ℕ → ℕ → List Piece
pieces_from zero script at end = []
pieces_from (suc n) script at end =
    elim (item_at script at end) [
      | Capdu from size ↦ capdu (part script from size) ∷ pieces_from n script (from + size) end
      | Bad code ↦ bad_format code ∷ []
      | End ↦ []
    ]

unfoldable pub pieces_in : ℕ → Option Template → List ℕ → List Piece
pieces_in n (Some (Definite at end)) script = pieces_from n script at end
pieces_in n (Some (Indefinite at end)) script = pieces_from n script at end
pieces_in n None script = []

-- all of them: each takes a byte or more
unfoldable pub pieces_of : Option Template → List ℕ → List Piece
pieces_of template script = pieces_in (length script) template script

unfoldable pub is_definite : Option Template → Bool
is_definite (Some (Definite at end)) = true
is_definite (Some (Indefinite at end)) = false
is_definite None = false

-- a C-APDU is run, a bad format counts
unfoldable pub piece_done : Bool → ℕ → Progress → Piece → Progress
piece_done definite domain p (capdu bytes) = step_capdu definite domain bytes p
piece_done definite domain p (bad_format code) = step_bad code p

unfoldable pub piece_goes_on : Progress → Bool
piece_goes_on p = word_goes_on p.state

-- how far a script is after each piece of its template that runs
unfoldable pub progress_after : Option Template → List ℕ → ℕ → ℕ → Card → List Progress
progress_after template script application domain card =
    after (piece_done (is_definite template) domain) piece_goes_on (begun application card) (pieces_of template script)

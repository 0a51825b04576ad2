-- Demand 2: "Each accepted script, compact or expanded, does to the files and answers with the bytes exactly what document 01 says, on
-- the ground of ETSI TS 102 226 and TS 102 221: the same commands run, the same status, the same count, the same stopping place."
--
-- What a call gives is said in `Calls`, and the contracts of the three calls cite it for the answer and for every byte of each lent
-- memory. Here stands what it comes to: detection, the commands that run and their count, the fresh start, that an error changes
-- nothing, the marked cases, the cyclic law.
use Rattle.std.specs.Prelude.{ℕ, ◌+◌, ◌-◌, ◌*◌, ◌%◌, ◌≤◌, ◌<◌, Bool, List, [], ◌∷◌, ◌≡◌, length, Option, Some, None, Ok}
use Rattle.octets.specs.Bytes.{AllBytes, overwrite, zeros}
use Rattle.card.specs.declared.Row.{Row}
use Rattle.card.specs.Row.{Card}
use Rattle.card.specs.Sound.{record_count}
use Rattle.card.specs.Records.{cyclic_place, record_offset}
use Rattle.tlv.specs.declared.template.Template.{Template}
use Rattle.tlv.specs.declared.template.Template.TheVariants.{Definite, Indefinite}
use Rattle.tlv.specs.Templates.{template_of}
use Rattle.journal.specs.Changes.{with_mark}
use Rattle.session.specs.Session as session
use Rattle.session.specs.Session.{start}
use Rattle.command.specs.declared.checks.Check.{Check}
use Rattle.command.specs.declared.Format.{Format}
use Rattle.command.specs.declared.Format.TheVariants.{Compact, Expanded}
use Rattle.command.specs.declared.Outcome.TheVariants.{Error}
use Rattle.command.specs.Instructions as ins
use Rattle.plan.specs.Plans.{Situation}
use Rattle.decide.specs.Order.{formal_checks}
use Rattle.decide.specs.Fails.{first_failing}
use Rattle.step.specs.Steps.{State, started}
use Rattle.decide.specs.Decisions.{situation}
use Rattle.compact.specs.Compact as compact
use Rattle.expanded.specs.Capdu.{capdu_command}
use Rattle.expanded.specs.Expanded as expanded
use Rattle.expanded.specs.Expanded.{Progress, begun}
use Rattle.engine.specs.Numbers.{Arguments, detected, format_of}
use Rattle.engine.specs.Calls.{Result, gives, run_script}
use Rattle.demands.specs.Called.{running, result_of, number}
use Rattle.demands.specs.Commands.{last_of, Read, read_in, commands_from, commands_of, command_done, states_after, Piece, capdu, pieces_in, pieces_of, piece_done, progress_after}
use Rattle.demands.specs.Apart.{Apart}
use Rattle.engine.specs.Hex.{hex}
use Rattle.engine.specs.Worked.{Marked}

-- ---- the commands that run

-- a compact script leaves the state after the last command that runs, and counts those that run
pub record CompactRuns (script : List ℕ) (application domain : ℕ) (card : Card) : Type 0 where
  pub state :
      compact.run script application domain card
      ≡ last_of (started application card) (states_after script application domain card)
  pub count :
      (compact.run script application domain card).step.count ≡ length (states_after script application domain card)

-- and so does an expanded one
pub record ExpandedRuns (template : Option Template) (script : List ℕ) (application domain : ℕ) (card : Card) : Type 0 where
  pub progress :
      expanded.run template script application domain card
      ≡ last_of (begun application card) (progress_after template script application domain card)
  pub count :
      (expanded.run template script application domain card).state.step.count
      ≡ length (progress_after template script application domain card)

-- ---- "Each script starts afresh."

-- a command that works on a file: neither SELECT nor GET RESPONSE, and no formal check fails
pub record WorksOnFile (w : Situation) : Type 0 where
  pub not_select : w.command.instruction ≡ ins.select → ⊥
  pub not_get_response : w.command.instruction ≡ ins.get_response → ⊥
  pub formal : first_failing w formal_checks ≡ Ok tt

-- the situation of a script's first command
abbrev pub first_situation : Format → Arguments → Read → Card → Situation
first_situation format a r c =
    situation format a.domain r.command r.«data» (start a.application).standing (with_mark c)

-- an answer of one command, after which table and files are as they were, and the journal has the mark more
unfoldable pub one_command : Card → List ℕ → List ℕ → Result
one_command c answer response =
    gives (record { number = 0; length = length answer; count = 1 }) (with_mark c) (overwrite response 0 answer)

-- the answer 6986 to the only command of a template
unfoldable pub no_file : Option Template → List ℕ
no_file (Some (Definite at end)) = hex "AB0780010123026986"
no_file (Some (Indefinite at end)) = hex "AF80230269860000"
no_file None = []

-- an accepted run: whatever an earlier one selected, its script starts from its root, with no file, no record number and nothing
-- waiting among 255 bytes of zero; and a first command that works on a file ends it with 6986
pub record Fresh (c : Card) (a : Arguments) : Type 0 where
  pub session :
      (started a.application (with_mark c)).step.session.standing
      ≡ record {
        root = a.application;
        directory = a.application;
        file = session.none;
        record_number = session.none;
        valid = 0;
        word = 0;
      }
  pub waiting : (started a.application (with_mark c)).step.session.waiting ≡ zeros 255
  pub compact :
      (r : Read) (rs : List Read)
      → format_of a.format a.script ≡ Compact → commands_of a.script ≡ r ∷ rs
      → WorksOnFile (first_situation Compact a r c)
      → result_of (running a) c ≡ one_command c (hex "016986") a.response
  pub expanded :
      (bytes : List ℕ) (pieces : List Piece)
      → format_of a.format a.script ≡ Expanded → pieces_of (template_of a.script) a.script ≡ capdu bytes ∷ pieces
      → WorksOnFile (first_situation Expanded a (read_in bytes (capdu_command bytes)) c)
      → result_of (running a) c ≡ one_command c (no_file (template_of a.script)) a.response

-- ---- detection

-- the format number of a format
unfoldable pub format_number : Format → ℕ
format_number Compact = 0
format_number Expanded = 1

-- the same arguments, with the number of the format that is found in the script
unfoldable pub as_found : Arguments → Arguments
as_found a =
    record {
      application = a.application;
      domain = a.domain;
      format = format_number (detected a.script);
      script = a.script;
      response = a.response;
    }

-- ---- "A command ends well, with or without data, or with an error word, changing nothing."

-- after a command that ends with an error word, card and session are what they were before it
pub record NothingChanged (before after : State) : Type 0 where
  pub card : after.card ≡ before.card
  pub session : after.step.session ≡ before.step.session

-- a compact script's command, and a piece of an expanded one, in any state
pub record ErrorsChangeNothing : Type 0 where
  pub compact :
      (domain : ℕ) (st : State) (r : Read) (k : Check) → (command_done domain st r).step.outcome ≡ Error k
      → NothingChanged st (command_done domain st r)
  pub expanded :
      (definite : Bool) (domain : ℕ) (p : Progress) (piece : Piece) (k : Check)
      → (piece_done definite domain p piece).state.step.outcome ≡ Error k
      → NothingChanged p.state (piece_done definite domain p piece).state

-- ---- "A cyclic file with m records and newest place k has record r at place (k + r - 1) mod m. This is proved once for any m."

pub record Cyclic (m k : ℕ) : Type 0 where
  pub place : (r : ℕ) → 1 ≤ r → cyclic_place m k r ≡ (k + r - 1) % m
  -- a file of `m` records, with its newest at the place `k`, has record `r` at that place
  pub in_file :
      (f : Row) (r : ℕ) → 1 ≤ r → record_count f ≡ m → f.newest ≡ k
      → record_offset f r ≡ f.record_length * ((k + r - 1) % m)
  -- record 1 is the newest; records and places are one to one
  pub newest : cyclic_place m k 1 ≡ k
  pub one_number : (r s : ℕ) → 1 ≤ r → r ≤ m → 1 ≤ s → s ≤ m → cyclic_place m k r ≡ cyclic_place m k s → r ≡ s
  pub some_number : (p : ℕ) → p < m → (r : ℕ) × (1 ≤ r) × (r ≤ m) × (cyclic_place m k r ≡ p)
  -- where the oldest place becomes the newest, it is record 1, and every other record's number grows by one
  pub renewed : cyclic_place m (cyclic_place m k m) 1 ≡ cyclic_place m k m
  pub grown : (r : ℕ) → 1 ≤ r → cyclic_place m (cyclic_place m k m) (r + 1) ≡ cyclic_place m k r

pub record Demand2 : Type 0 where
  -- an accepted run is its script, run on the card with the script's mark
  pub accepted :
      (a : Arguments) (c : Card) → number (result_of (running a) c) ≡ 0
      → result_of (running a) c ≡ run_script (format_of a.format a.script) a (with_mark c)
  -- a run with format 2 gives what the run with the number of the format found gives, answer, card and response memory: "and the answer
  -- has the form found"
  pub detection : (a : Arguments) (c : Card) → a.format ≡ 2 → result_of (running a) c ≡ result_of (running (as_found a)) c
  -- the same commands run, with the same count and stopping place
  pub compact : (script : List ℕ) (application domain : ℕ) (card : Card) → CompactRuns script application domain card
  pub expanded :
      (template : Option Template) (script : List ℕ) (application domain : ℕ) (card : Card)
      → ExpandedRuns template script application domain card
  -- and these are all that the script has: no larger bound reads one more
  pub all_commands : (script : List ℕ) (n : ℕ) → length script ≤ n → commands_from n script 0 ≡ commands_of script
  pub all_pieces :
      (script : List ℕ) → AllBytes script → (n : ℕ) → length script ≤ n
      → pieces_in n (template_of script) script ≡ pieces_of (template_of script) script
  -- any accepted run starts afresh, whatever card it finds
  pub fresh : (a : Arguments) (c : Card) → number (result_of (running a) c) ≡ 0 → Fresh c a
  -- a command that ends with an error word leaves table, files, journal and session
  pub errors : ErrorsChangeNothing
  pub marked : Marked
  pub cyclic : (m k : ℕ) → k < m → Cyclic m k
  -- a script stays within its application, and a run leaves the others as they were
  pub nothing_crosses :
      (a : Arguments) (c : Card) → AllBytes a.script → number (result_of (running a) c) ≡ 0
      → Apart a c (result_of (running a) c).card

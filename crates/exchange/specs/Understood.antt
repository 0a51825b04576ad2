-- "What the builder writes must be understood by the engine as exactly that list."
use Rattle.std.specs.Prelude.{ℕ, ◌+◌, ◌*◌, Bool, true, not, ◌&&◌, List, [], ◌∷◌, ◌≡◌, length, take, eqb, Some}
use Rattle.octets.specs.Choice.{pick}
use Rattle.card.specs.Row.{Card}
use Rattle.tlv.specs.declared.template.Template.TheVariants.{Definite}
use Rattle.tlv.specs.Templates.{template_of}
use Rattle.command.specs.declared.Format.TheVariants.{Compact, Expanded}
use Rattle.command.specs.Instructions as ins
use Rattle.expanded.specs.Capdu.{capdu_command}
use Rattle.engine.specs.Numbers.{Arguments, detected}
use Rattle.demands.specs.Called.{running, result_of, number}
use Rattle.demands.specs.Commands.{Read, read_in, commands_of, Piece, capdu, bad_format, pieces_of}
use Rattle.operations.specs.declared.rows.Operation.{Operation}
use Rattle.operations.specs.Rows as rows
use Rattle.operations.specs.Rows.{is_read, is_binary, operations_of}
use Rattle.operations.specs.Carried.{is_none}
use Rattle.operations.specs.Scripts.{instruction_of, p1_of, p2_of, bytes_of, capdu_of}
use Rattle.operations.specs.Builds.{Building, build}

-- ---- the list's commands

-- the command that an operation is; `after` tells that bytes follow it in a compact script
unfoldable pub command_of : Bool → List ℕ → Operation → Read
command_of after «data» o =
    record {
      command =
          record {
            whole = true;
            class = ins.class_of (instruction_of o.kind);
            instruction = instruction_of o.kind;
            p1 = p1_of o;
            p2 = p2_of o;
            p3 = o.count;
            case = ins.case_of (instruction_of o.kind) (p2_of o);
            after = after;
          };
      «data» = bytes_of «data» o;
    }

-- the commands of a list in a script of a format
unfoldable pub list_commands : ℕ → List ℕ → List Operation → List Read
list_commands format «data» [] = []
list_commands format «data» (o ∷ os) =
    command_of (eqb format 0 && not (is_none os)) «data» o ∷ list_commands format «data» os

-- its C-APDUs
unfoldable pub list_capdus : List ℕ → List Operation → List Piece
list_capdus «data» [] = []
list_capdus «data» (o ∷ os) = capdu (capdu_of «data» o) ∷ list_capdus «data» os

-- the commands of the C-APDUs of a template
unfoldable pub capdu_commands : List Piece → List Read
capdu_commands [] = []
capdu_commands (capdu bytes ∷ pieces) = read_in bytes (capdu_command bytes) ∷ capdu_commands pieces
capdu_commands (bad_format code ∷ pieces) = capdu_commands pieces

-- ---- an operation, told again from its command

-- what an operation asks for: its kind, mode and number, how many bytes a read wants, and the bytes that any other brings
pub record Asked : Type 0 where
  pub kind : ℕ
  pub mode : ℕ
  pub number : ℕ
  pub wanted : ℕ
  pub bytes : List ℕ

unfoldable pub asked : List ℕ → Operation → Asked
asked «data» o =
    record {
      kind = o.kind;
      mode = o.mode;
      number = o.number;
      wanted = pick (is_read o.kind) o.count 0;
      bytes = bytes_of «data» o;
    }

unfoldable pub all_asked : List ℕ → List Operation → List Asked
all_asked «data» [] = []
all_asked «data» (o ∷ os) = asked «data» o ∷ all_asked «data» os

-- the kind of an instruction
unfoldable pub kind_of : ℕ → ℕ
kind_of i =
    pick (eqb i ins.select) rows.select
    (pick (eqb i ins.update_binary) rows.update
    (pick (eqb i ins.read_binary) rows.read
    (pick (eqb i ins.update_record) rows.update_record
    (pick (eqb i ins.read_record) rows.read_record (pick (eqb i ins.increase) rows.increase rows.search)))))

-- what a command asks for: a SELECT has its parameters from its kind, an offset stands in both, and others have number and mode in them
unfoldable pub asked_by : Read → Asked
asked_by r =
    let kind : ℕ = kind_of r.command.instruction in
    record {
      kind = kind;
      mode = pick (eqb kind rows.select) 0 (pick (is_binary kind) 0 r.command.p2);
      number =
          pick (eqb kind rows.select) 0
          (pick (is_binary kind) (r.command.p1 * 256 + r.command.p2) r.command.p1);
      wanted = pick (is_read kind) r.command.p3 0;
      bytes = r.«data»;
    }

unfoldable pub all_asked_by : List Read → List Asked
all_asked_by [] = []
all_asked_by (r ∷ rs) = asked_by r ∷ all_asked_by rs

-- ---- the statements

-- the script that a build wrote
unfoldable pub written : Building → List ℕ
written b = take b.answer.length b.memory

-- a script that was built
pub record Understood (format : ℕ) (list «data» script : List ℕ) : Type 0 where
  -- compact: the engine's own reading of the script is the list's commands
  pub compact : format ≡ 0 → commands_of script ≡ list_commands 0 «data» (operations_of list)
  -- expanded: the template runs to the end, its pieces are the list's C-APDUs, and these are the list's commands
  pub template : format ≡ 1 → (at : ℕ) × (template_of script ≡ Some (Definite at (length script)))
  pub pieces : format ≡ 1 → pieces_of (template_of script) script ≡ list_capdus «data» (operations_of list)
  pub capdus : capdu_commands (list_capdus «data» (operations_of list)) ≡ list_commands 1 «data» (operations_of list)
  -- exactly: from the commands the operations can be told again
  pub told : all_asked_by (list_commands format «data» (operations_of list)) ≡ all_asked «data» (operations_of list)
  -- its format is the one that is found in it
  pub found : detected script ≡ pick (eqb format 0) Compact Expanded
  -- numbers 3 and 6 are never given to it, whatever the card, with its own format or with detection
  pub length : (a : Arguments) (c : Card) → a.script ≡ script → number (result_of (running a) c) ≡ 3 → ⊥
  pub own_format :
      (a : Arguments) (c : Card) → a.script ≡ script → a.format ≡ format → number (result_of (running a) c) ≡ 6 → ⊥
  pub detection :
      (a : Arguments) (c : Card) → a.script ≡ script → a.format ≡ 2 → number (result_of (running a) c) ≡ 6 → ⊥

-- every build that is not refused is understood
abbrev pub EachUnderstood : Type 0
EachUnderstood =
    (format : ℕ) (list «data» memory : List ℕ) → (build format list «data» memory).answer.refusal ≡ 0
    → Understood format list «data» (written (build format list «data» memory))

-- and no two lists give one script
abbrev pub OneList : Type 0
OneList =
    (format : ℕ) (list «data» memory list' data' memory' : List ℕ)
    → (build format list «data» memory).answer.refusal ≡ 0
    → (build format list' data' memory').answer.refusal ≡ 0
    → written (build format list «data» memory) ≡ written (build format list' data' memory')
    → all_asked «data» (operations_of list) ≡ all_asked data' (operations_of list')

-- "Call numbers": "Checked in this order."
use Rattle.std.specs.Prelude.{ℕ, Option, Some, None, Result, Ok, Err, Bool, true, false, not, ◌&&◌, ◌||◌, List, [], ◌∷◌, length, leb, ltb, eqb}
use Rattle.octets.specs.Choice.{pick}
use Rattle.octets.specs.Bytes.{byte}
use Rattle.card.specs.Row.{Card, entries, row_of, is_adf}
use Rattle.tlv.specs.declared.template.Template.{Template}
use Rattle.tlv.specs.Templates.{template_of}
use Rattle.journal.specs.Entries.{scripts_on_trial}
use Rattle.journal.specs.Sound.{mark_fits, sound_card}
use Rattle.command.specs.declared.Format.{Format}
use Rattle.command.specs.declared.Format.TheVariants.{Compact, Expanded}
use Rattle.step.specs.Limits.{longest_script}
use Rattle.engine.specs.declared.Answer.{Answer}
use Rattle.engine.specs.declared.Done.{Done}
use Rattle.engine.specs.declared.Refused.{Refused}
use Rattle.engine.specs.declared.Refused.TheVariants.{NotSound, UnknownArgument, ScriptLength, ResponseShort, JournalFull, NoTemplate, NothingOnTrial}
use Rattle.engine.specs.declared.numbers.Start.{Start}
use Rattle.engine.specs.declared.numbers.Start.TheVariants as starts

-- a number alone: length 0 and count 0
abbrev pub numbered : ℕ → Answer
numbered number = record { number = number; length = 0; count = 0 }

-- "Call numbers": the number of a refusal
abbrev pub number_of : Refused → ℕ
number_of NotSound = 1
number_of UnknownArgument = 2
number_of ScriptLength = 3
number_of ResponseShort = 4
number_of JournalFull = 5
number_of NoTemplate = 6
number_of NothingOnTrial = 7

-- "this paper's number and values for each of the enum's cases": 0 with the length and the count, or the number of a refusal alone
abbrev pub answer_of : Result Done Refused → Answer
answer_of (Ok done) = record { number = 0; length = done.length; count = done.count }
answer_of (Err e) = numbered (number_of e)

-- what a run is called with besides the card
pub record Arguments : Type 0 where
  pub application : ℕ
  pub domain : ℕ
  pub format : ℕ
  pub script : List ℕ
  pub response : List ℕ

-- a call's number and whether what it stands for holds
pub record Refusal : Type 0 where
  pub number : ℕ
  pub given : Bool

-- "a script that starts with AA or AE is expanded, any other compact"
unfoldable pub detected : List ℕ → Format
detected script = pick (eqb (byte script 0) 0xAA || eqb (byte script 0) 0xAE) Expanded Compact

-- the format of a run: by its format number, "0 (compact) or 1 (expanded)", or the one found in its script: "Add format 2, detection as in
-- clause 5.3 of source document 003"
unfoldable pub format_of : ℕ → List ℕ → Format
format_of format script = pick (eqb format 0) Compact (pick (eqb format 1) Expanded (detected script))

-- whether a format number is known: "Refusals: number 2's format is now one above 2"
abbrev pub format_known : ℕ → Bool
format_known format = leb format 2

-- "application neither 0 (shared files) nor an ADF's entry number"
unfoldable pub application_fits : List ℕ → ℕ → Bool
application_fits t application = eqb application 0 || (ltb application (entries t) && is_adf (row_of t application))

-- "format not ..; or application ..; or access domain neither 00 nor FF"
unfoldable pub arguments_fit : List ℕ → Arguments → Bool
arguments_fit t a =
    format_known a.format
    && (application_fits t a.application && (eqb a.domain 0x00 || eqb a.domain 0xFF))

-- "script length not 1 to 1,024"
unfoldable pub script_fits : List ℕ → Bool
script_fits script = leb 1 (length script) && leb (length script) longest_script

-- "response memory below 1,024 bytes"
unfoldable pub least_response : Format → ℕ
least_response Compact = 1024
least_response Expanded = 1024

-- whether a script has no template
unfoldable pub is_missing : Option Template → Bool
is_missing (Some template) = false
is_missing None = true

-- "expanded, and no template as below"; "6 also applies to a script found to be expanded."
unfoldable pub template_fits : Format → List ℕ → Bool
template_fits Compact script = true
template_fits Expanded script = not (is_missing (template_of script))

-- the first number that is given; "Otherwise the number is 0"
unfoldable pub first_given : List Refusal → ℕ
first_given [] = 0
first_given (r ∷ rs) = pick r.given r.number (first_given rs)

-- 1: "table, file memory or journal not sound"
unfoldable pub not_sound : Card → Refusal
not_sound c = record { number = 1; given = not (sound_card c) }

-- "A run meets 1-6"
unfoldable pub run_refusals : Card → Arguments → List Refusal
run_refusals c a =
    not_sound c
    ∷ record { number = 2; given = not (arguments_fit c.table a) }
    ∷ record { number = 3; given = not (script_fits a.script) }
    ∷ record { number = 4; given = ltb (length a.response) (least_response (format_of a.format a.script)) }
    ∷ record { number = 5; given = not (mark_fits c.journal) }
    ∷ record { number = 6; given = not (template_fits (format_of a.format a.script) a.script) }
    ∷ []

-- the template that a script starts with, and number 6 without one
unfoldable pub template_start : Option Template → Result Start ℕ
template_start (Some template) = Ok (starts.Expanded template)
template_start None = Err 6

-- how a script of a format starts
unfoldable pub script_start : Format → List ℕ → Result Start ℕ
script_start Compact script = Ok starts.Compact
script_start Expanded script = template_start (template_of script)

-- how a run starts: with its script, and where a number is given, with that
unfoldable pub start_of : Card → Arguments → Result Start ℕ
start_of c a =
    let number : ℕ = first_given (run_refusals c a) in
    pick (eqb number 0) (script_start (format_of a.format a.script) a.script) (Err number)

-- a start or why there is none, with the number of that
abbrev pub by_number : Result Start Refused → Result Start ℕ
by_number (Ok start) = Ok start
by_number (Err e) = Err (number_of e)

-- "a take-back 1 and 7"; 7: "take-back with no script on trial"
unfoldable pub take_back_refusals : Card → List Refusal
take_back_refusals c =
    not_sound c ∷ record { number = 7; given = eqb (scripts_on_trial c.journal) 0 } ∷ []

-- "a confirmation 1"
unfoldable pub confirm_refusals : Card → List Refusal
confirm_refusals c = not_sound c ∷ []

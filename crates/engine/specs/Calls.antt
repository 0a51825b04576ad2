-- "One library runs a remote file management script against a lent card, takes the newest script back, or confirms all.": the three
-- calls, as functions from card and arguments to answer, card and response memory.
use Rattle.std.specs.Prelude.{ℕ, Option, Bool, true, false, List, [], ◌++◌, length, eqb}
use Rattle.octets.specs.Bytes.{overwrite}
use Rattle.card.specs.Row.{Card}
use Rattle.tlv.specs.declared.template.Template.{Template}
use Rattle.tlv.specs.Templates.{template_of}
use Rattle.journal.specs.Changes.{with_mark, taken_back, confirmed}
use Rattle.command.specs.declared.Format.{Format}
use Rattle.command.specs.declared.Format.TheVariants.{Compact, Expanded}
use Rattle.step.specs.Steps.{State}
use Rattle.compact.specs.Compact as compact
use Rattle.expanded.specs.Expanded as expanded
use Rattle.expanded.specs.Expanded.{Progress}
use Rattle.engine.specs.declared.Call.{Call}
use Rattle.engine.specs.declared.Answer.{Answer}
use Rattle.engine.specs.Numbers.{numbered, Arguments, format_of, first_given, run_refusals, take_back_refusals, confirm_refusals}

-- what a call gives: its answer, the card after it, and the response memory after it
pub record Result : Type 0 where
  pub answer : Answer
  pub card : Card
  pub response : List ℕ

abbrev pub gives : Answer → Card → List ℕ → Result
gives answer card response = record { answer = answer; card = card; response = response }

-- what a run is called with, its script and a response memory
abbrev pub arguments_of : Call → List ℕ → List ℕ → Arguments
arguments_of call script response =
    record {
      application = call.application;
      domain = call.domain;
      format = call.format;
      script = script;
      response = response;
    }

-- an accepted run: "Response memory after the answer's last byte keeps its content."
unfoldable pub accepted : State → List ℕ → List ℕ → Result
accepted st answer response =
    record {
      answer = record { number = 0; length = length answer; count = st.step.count };
      card = st.card;
      response = overwrite response 0 answer;
    }

-- a call that is done where no number is given; "All return length 0 and count 0 and change no lent byte."
unfoldable pub unless_refused : ℕ → Card → List ℕ → Result → Result
unless_refused number c response r = elim (eqb number 0) [ true ↦ r | false ↦ gives (numbered number) c response ]

-- what the items of a template's value give, from the place `at` to `end`, with the answer of the template's form
unfoldable pub run_value : Bool → ℕ → ℕ → Arguments → Card → Result
run_value definite at end a c =
    let p : Progress =
    expanded.run_from (length a.script) a.script a.domain definite at end (expanded.begun a.application c)
    in
    accepted p.state (expanded.answer_bytes definite p.state.step.count (p.kept ++ p.last)) a.response

-- what a script of a format gives, on a card whose journal has the script's mark
unfoldable pub run_script : Format → Arguments → Card → Result
run_script Compact a c =
    let st : State = compact.run a.script a.application a.domain c in
    accepted st (compact.answer st.step st.card.files) a.response
run_script Expanded a c =
    let template : Option Template = template_of a.script in
    let p : Progress = expanded.run template a.script a.application a.domain c in
    accepted p.state (expanded.answer template p) a.response

-- what a run gives: its number where one is given, and else its script on the card with the script's mark
unfoldable pub run : Arguments → Card → Result
run a c =
    unless_refused (first_given (run_refusals c a)) c a.response
    (run_script (format_of a.format a.script) a (with_mark c))

-- "a take-back or confirmation has length and count 0"; neither is lent response memory
unfoldable pub take_back : Card → Result
take_back c = unless_refused (first_given (take_back_refusals c)) c [] (gives (numbered 0) (taken_back c) [])

unfoldable pub confirm : Card → Result
confirm c = unless_refused (first_given (confirm_refusals c)) c [] (gives (numbered 0) (confirmed c) [])

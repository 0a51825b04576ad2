-- A script starts afresh: a first command that works on a file finds none, ends with 6986, and changes nothing.
-- At the start no file is current, and that a file is current is the first check after the formal ones: so a command that passes those
-- and is neither SELECT nor GET RESPONSE fails there, whatever the card (`no_file_lem`). Its word does not go on, so the script leaves
-- what this one command leaves (`one_only`). The answer is then worked out: three bytes for a compact script; for an expanded one the
-- only R-APDU, which stands in the answer whether it is kept or is the last (`either_counts`), in the form of the template
-- (`template-answer`). Assumes nothing.
use Rattle.std.specs.Prelude.{Option, Some, None}
use Prim.Native.Nat.{ℕ}
use mathlib.Core.Path.{◌≡◌, refl, ap, ◌∙◌}
use mathlib.Core.Bool.{Bool, true, false}
use mathlib.Core.List.{List, [], ◌∷◌, ◌++◌}
use borrow.Author.Tests.{ne_eqb}
use Rattle.octets.specs.Choice.{pick}
use Rattle.octets.specs.Bytes.{bytes2}
use Rattle.card.specs.Row.{Card}
use Rattle.tlv.specs.declared.template.Template.{Template}
use Rattle.tlv.specs.declared.template.Template.TheVariants.{Definite, Indefinite}
use Rattle.tlv.specs.Lengths.{length_bytes}
use Rattle.tlv.specs.Templates.{template_of}
use Rattle.journal.specs.Changes.{perform, with_mark}
use Rattle.session.specs.Session.{start_standing, start, start_waiting}
use Rattle.command.specs.declared.Format.TheVariants.{Compact, Expanded}
use Rattle.command.specs.Instructions as ins
use Rattle.plan.specs.Ends.{Plan, failed}
use Rattle.command.specs.Outcomes.{data_of}
use Rattle.plan.specs.Plans.{Situation}
use Rattle.decide.specs.Order.{formal_checks, bound_checks, file_checks, later_checks, order}
use Rattle.command.specs.declared.checks.Check.TheVariants.{NoFile}
use Rattle.command.specs.Checks.{check_word}
use Rattle.decide.specs.Fails.{fails, first_failing}
use Rattle.step.specs.Steps.{State, started, stepped, carried_out}
use Rattle.decide.specs.Decisions.{situation, decided, planned}
use Rattle.decide.proofs.Passing.{all_pass}
use Rattle.decide.proofs.Plans.{first-behind}
use Rattle.compact.specs.Compact as compact
use Rattle.expanded.specs.Capdu.{capdu_command}
use Rattle.expanded.specs.Expanded as expanded
use Rattle.step.specs.Limits.{rapdu_size, limited}
use Rattle.expanded.specs.Expanded.{rapdu, keeps, Progress, answered, last_rapdu, step_capdu, begun, count_bytes, definite_body, definite_answer, indefinite_answer, answer_bytes}
use Rattle.engine.specs.Numbers.{Arguments, format_of}
use Rattle.engine.specs.Calls.{accepted, run_script}
use Rattle.demands.specs.Called.{running, result_of, number}
use Rattle.engine.specs.Hex.{digit, hex}
use Rattle.demands.specs.Commands.{Read, read_in, commands_of, command_done, word_goes_on, states_after, Piece, capdu, pieces_of, is_definite, piece_done, piece_goes_on, progress_after}
use Rattle.demands.specs.Demand2.{WorksOnFile, first_situation, one_command, no_file, Fresh}
use Rattle.demands.proofs.LawsRefused.{run-done}
use Rattle.demands.proofs.Commands.{one_only, compact-runs, expanded-runs}

-- no file is current
no_file_lem : (w : Situation) → WorksOnFile w → w.session.file ≡ 0 → planned w ≡ failed w.session NoFile
unfolding planned decided order later_checks file_checks bound_checks first_failing fails pick
no_file_lem w h z =
    ap (decided w) (first-behind w formal_checks (later_checks w.command.instruction) (all_pass w formal_checks h.formal))
    ∙ rw (ne_eqb w.command.instruction ins.select h.not_select, ne_eqb w.command.instruction ins.get_response h.not_get_response, z)

-- the state of a script that was stopped so
stopped : ℕ → Card → State
stopped application card = stepped (started application card) (carried_out (failed (start application).standing NoFile) start_waiting card)

-- ---- compact

module _ (script : List ℕ) (application domain : ℕ) (card : Card) (r : Read) (rs : List Read) (first : commands_of script ≡ r ∷ rs)
    (works : WorksOnFile (situation Compact domain r.command r.«data» (start application).standing card)) where
  -- the state after the command
  command-fails : command_done domain (started application card) r ≡ stopped application card
  unfolding command_done started situation start_standing stopped carried_out perform
  command-fails =
      ap (λ (p : Plan). stepped (started application card) (carried_out p start_waiting card))
      (no_file_lem (situation Compact domain r.command r.«data» (start application).standing card) works refl)

  compact_stops : compact.run script application domain card ≡ stopped application card
  unfolding states_after word_goes_on stopped stepped carried_out failed check_word
  compact_stops =
      (compact-runs script application domain card).state
      ∙ one_only (command_done domain) word_goes_on (started application card) (commands_of script) r rs first (ap word_goes_on command-fails)
      ∙ command-fails

compact-fresh : (a : Arguments) (c : Card) (r : Read) (rs : List Read) → number (result_of (running a) c) ≡ 0 → format_of a.format a.script ≡ Compact → commands_of a.script ≡ r ∷ rs
    → WorksOnFile (first_situation Compact a r c) → result_of (running a) c ≡ one_command c (hex "016986") a.response
unfolding run_script accepted compact.answer one_command stopped started stepped carried_out failed check_word perform data_of bytes2 hex digit pick
compact-fresh a c r rs ok f first works =
    run-done a c ok
    ∙ rw (f, compact_stops a.script a.application a.domain (with_mark c) r rs first works)

-- ---- expanded

-- an R-APDU is kept or stands last: either way it is all that stands in the answer
module _ (definite : Bool) (domain application : ℕ) (card : Card) (bytes : List ℕ) where
  abbrev command : Read
  command = read_in bytes (capdu_command bytes)

  abbrev plan : Plan
  plan = planned (situation Expanded domain command.command command.«data» (start application).standing card)

  either_counts : (counts : Bool) → plan ≡ failed (start application).standing NoFile
      → let st = stepped (started application card) (carried_out (limited 0 counts (start application).standing plan) start_waiting card) in
      let p = answered counts st [] (last_rapdu st.step st.card.files) in
      (p.state ≡ stopped application card) × (p.kept ++ p.last ≡ hex "23026986")
  unfolding limited answered last_rapdu rapdu rapdu_size length_bytes data_of bytes2 stopped stepped carried_out failed check_word perform hex digit pick
  either_counts true e = rw e (refl, refl)
  either_counts false e = rw e (refl, refl)

  module _ (works : WorksOnFile (situation Expanded domain command.command command.«data» (start application).standing card)) where
    abbrev done : Progress
    done = piece_done definite domain (begun application card) (capdu bytes)

    piece_fails : (done.state ≡ stopped application card) × (done.kept ++ done.last ≡ hex "23026986")
    unfolding piece_done step_capdu begun started situation start_standing read_in
    piece_fails = either_counts (keeps definite (capdu_command bytes).command.case) (no_file_lem _ works refl)

    piece_stops : piece_goes_on done ≡ false
    unfolding piece_goes_on word_goes_on stopped stepped carried_out failed check_word
    piece_stops = ap word_goes_on piece_fails.0

-- the answer of a template
template-answer : (template : Option Template) (p : Progress) (application : ℕ) (c : Card) (response : List ℕ) → p.state ≡ stopped application (with_mark c) → p.kept ++ p.last ≡ hex "23026986"
    → accepted p.state (expanded.answer template p) response ≡ one_command c (no_file template) response
unfolding accepted expanded.answer answer_bytes definite_answer indefinite_answer definite_body count_bytes length_bytes bytes2 one_command no_file stopped started stepped carried_out failed check_word perform hex digit pick
template-answer (Some (Definite at end)) p application c response e f = rw (e, f)
template-answer (Some (Indefinite at end)) p application c response e f = rw (e, f)
template-answer None p application c response e f = rw e

expanded-fresh : (a : Arguments) (c : Card) (bytes : List ℕ) (pieces : List Piece) → number (result_of (running a) c) ≡ 0 → format_of a.format a.script ≡ Expanded
    → pieces_of (template_of a.script) a.script ≡ capdu bytes ∷ pieces
    → WorksOnFile (first_situation Expanded a (read_in bytes (capdu_command bytes)) c)
    → result_of (running a) c ≡ one_command c (no_file (template_of a.script)) a.response
unfolding run_script progress_after
expanded-fresh a c bytes pieces ok f first works =
    let t = template_of a.script in
    let p = piece_done (is_definite t) a.domain (begun a.application (with_mark c)) (capdu bytes) in
    let fails = piece_fails (is_definite t) a.domain a.application (with_mark c) bytes works in
    let whole : expanded.run t a.script a.application a.domain (with_mark c) ≡ p =
    (expanded-runs t a.script a.application a.domain (with_mark c)).progress
    ∙ one_only (piece_done (is_definite t) a.domain) piece_goes_on (begun a.application (with_mark c)) (pieces_of t a.script) (capdu bytes) pieces first (piece_stops (is_definite t) a.domain a.application (with_mark c) bytes works)
    in
    run-done a c ok
    ∙ rw (f, whole)
    (template-answer t p a.application c a.response fails.0 fails.1)

pub fresh : (c : Card) (a : Arguments) → number (result_of (running a) c) ≡ 0 → Fresh c a
unfolding started start_standing start_waiting
fresh c a ok =
    record {
      session = refl;
      waiting = refl;
      compact = λ r rs f. compact-fresh a c r rs ok f;
      expanded = λ bytes pieces f. expanded-fresh a c bytes pieces ok f;
    }

-- The answer to an accepted run finds room in its response memory, so a run of a script of bytes keeps that memory's length.
-- Number 4 sees to room for the longest answer of each format (`compact_longest`, `expanded_longest`). A compact answer has three bytes
-- and no more data than P3 00 reads. An expanded one has at most ten bytes besides its R-APDUs, and these at most 1,004: the 1,000-byte rule holds for those kept while the script goes on, and what
-- stands last has no data (`step-told`). That is carried through the pieces of a template by induction on the rounds. Assumes nothing.
use Rattle.std.specs.Prelude.{Option, Some, None}
use Prim.Native.Nat.{ℕ, zero, suc, ◌+◌, ◌≤◌}
use mathlib.Core.Path.{◌≡◌, refl, ap, subst, ◌∙◌}
use mathlib.Core.Bool.{Bool, true, false}
use mathlib.Core.List.{List, ◌++◌}
use native.Mathlib.Omega.{arith}
use lib.Dec.{eqb}
use lib.ListN.{length, length-append}
use borrow.Author.Tests.{eqb-true}
use Rattle.octets.specs.Bytes.{AllBytes, part}
use Rattle.octets.specs.Choice.{pick}
use Rattle.octets.proofs.Picks.{on_test}
use Rattle.octets.proofs.Writes.{write-length}
use Rattle.card.specs.Row.{Card}
use Rattle.tlv.specs.declared.template.Template.{Template}
use Rattle.tlv.specs.declared.template.Template.TheVariants.{Definite, Indefinite}
use Rattle.tlv.specs.Templates.{template_of, item_at}
use Rattle.journal.specs.Promised.{Starts}
use Rattle.journal.specs.Changes.{with_mark, taken_back}
use Rattle.session.specs.Session.{most_waiting}
use Rattle.command.specs.declared.Format.{Format}
use Rattle.command.specs.declared.Format.TheVariants.{Compact, Expanded}
use Rattle.command.specs.declared.Reading.{Reading}
use Rattle.command.specs.Outcomes.{word_of, data_of, data_count, goes_on}
use Rattle.command.proofs.Outgoing.{data_length_lem}
use Rattle.plan.specs.Plans.{most_read}
use Rattle.step.specs.Limits.{rapdu_size, most_kept}
use Rattle.step.specs.Steps.{State, started, stepped, commanded}
use Rattle.step.proofs.Keeps.{starts_holds}
use Rattle.compact.specs.Compact as compact
use Rattle.compact.proofs.Answered.{answer-length}
use Rattle.compact.proofs.Fits.{outcome-inside}
use Rattle.compact.proofs.Runs as compact-runs
use Rattle.expanded.specs.Capdu.{capdu_command}
use Rattle.expanded.specs.Expanded as expanded
use Rattle.expanded.specs.Expanded.{Progress, bad_format, keeps, room_to_gather, answered, last_rapdu, step_capdu, step_bad, run_from, begun}
use Rattle.expanded.proofs.Limited.{step-told}
use Rattle.expanded.proofs.Runs.{part_small, brief, on_item, Kept, script-capdu_holds}
use Rattle.expanded.proofs.Written.{rapdu-length, answer-few}
use Rattle.engine.specs.Numbers.{Arguments, format_of, first_given, run_refusals, least_response}
use Rattle.engine.specs.Calls.{Result, accepted, unless_refused, run_script, run}
use Rattle.engine.proofs.Ended.{compact_longest, expanded_longest}
use Rattle.engine.proofs.Accepted.{marked-starts, may_start}
use Rattle.demands.proofs.Errors.{answered-state}

-- ---- expanded

abbrev Room : Progress → Type 0
Room p = length p.kept + length p.last ≤ room_to_gather

-- R-APDUs find room, and a script that goes on has kept no more than the rule lets it
abbrev Within : Progress → Type 0
Within p = Room p × (goes_on (word_of p.state.step.outcome) ≡ true → length p.kept ≤ most_kept)

answered-within : (counts : Bool) (st : State) (kept r : List ℕ) → length kept + length r ≤ room_to_gather → length kept ≤ most_kept
    → (counts ≡ true → goes_on (word_of st.step.outcome) ≡ true → length kept + length r ≤ most_kept) → Within (answered counts st kept r)
unfolding answered pick
answered-within true st kept r room few rule = (omega (arith, length-append kept r), λ going. omega (arith, length-append kept r, rule refl going))
answered-within false st kept r room few rule = (room, λ _. few)

module _ (script : List ℕ) (small : AllBytes script) (before : Card) (domain : ℕ) (definite : Bool) where
  capdu-within : (from size : ℕ) (p : Progress) → Kept before p → length p.kept ≤ most_kept → Within (step_capdu definite domain (part script from size) p)
  unfolding step_capdu stepped capdu_command last_rapdu
  capdu-within from size p h few =
      let bytes : List ℕ = part script from size in
      let r : Reading = capdu_command bytes in
      let counts : Bool = keeps definite r.command.case in
      let s = p.state.step.session in
      let d : List ℕ = part bytes r.from r.size in
      let st : State = stepped p.state (commanded Expanded domain r.command d s (length p.kept) counts p.state.card) in
      let new : List ℕ = last_rapdu st.step st.card.files in
      let byte = part_small script small from size 4 in
      let told = step-told (length p.kept) counts s.standing few p.state.card h.sound h.good domain r.command d (brief bytes r.from byte) byte s.waiting {s' = st.step.session} {outcome = st.step.outcome} {after = st.card} refl definite refl in
      let all : length st.step.session.waiting ≡ most_waiting =
      subst (λ (k : State). length k.step.session.waiting ≡ most_waiting) (answered-state counts st p.kept new)
      (script-capdu_holds script small before domain definite from size p h).waiting
      in
      let sized : length new ≡ rapdu_size (data_count st.step.outcome) =
      rapdu-length (data_of st.step.outcome st.card.files st.step.session.waiting) (word_of st.step.outcome)
      ∙ ap rapdu_size (data_length_lem st.step.outcome st.card.files st.step.session.waiting told.0 all)
      in
      answered-within counts st p.kept new (omega (arith, told.1, sized)) few (λ y going. omega (arith, told.2 y going, sized))

  run_room : (n at end : ℕ) (p : Progress) → Kept before p → length p.kept ≤ most_kept → Room p → Room (run_from n script domain definite at end p)
  unfolding run_from step_bad bad_format
  run_room zero at end p h few room = room
  run_room (suc n) at end p h few room =
      on_item Room (item_at script at end) _ _ p
      (λ from size.
      let next = step_capdu definite domain (part script from size) p in
      let within = capdu-within from size p h few in
      on_test Room (goes_on (word_of next.state.step.outcome)) _ _
      (λ going. run_room n (from + size) end next (script-capdu_holds script small before domain definite from size p h) (within.1 going) within.0)
      (λ _. within.0))
      (λ code. omega arith)
      room

-- ---- the answers

module _ (script : List ℕ) (small : AllBytes script) (application domain : ℕ) (card : Card) (starts : Starts card application) where
  abbrev ended : Bool → ℕ → ℕ → Progress
  ended definite at end = run_from (length script) script domain definite at end (begun application card)

  value-few : (definite : Bool) (at end : ℕ) → let p = ended definite at end in length (expanded.answer_bytes definite p.state.step.count (p.kept ++ p.last)) ≤ expanded.room_to_answer
  unfolding begun started
  value-few definite at end =
      let p = ended definite at end in
      let room = run_room script small (taken_back card) domain definite (length script) at end (begun application card) (starts_holds card application starts) (omega arith) (omega arith) in
      omega (arith, room, answer-few definite p.state.step.count (p.kept ++ p.last), length-append p.kept p.last)

  expanded-few : (template : Option Template) → length (expanded.answer template (expanded.run template script application domain card)) ≤ expanded.room_to_answer
  unfolding expanded.answer expanded.run
  expanded-few (Some (Definite at end)) = value-few true at end
  expanded-few (Some (Indefinite at end)) = value-few false at end
  expanded-few None = omega arith

  compact-few : let st = compact.run script application domain card in length (compact.answer st.step st.card.files) ≤ 3 + most_read Compact
  compact-few =
      let st = compact.run script application domain card in
      let holds = starts_holds card application starts in
      let inside = outcome-inside script small (taken_back card) application domain card holds in
      let all = (compact-runs.run-keeps script small (taken_back card) application domain card holds).waiting in
      omega (arith, answer-length st.step st.card.files inside.fits all, inside.few)

-- ---- a run

script-keeps : (f : Format) (a : Arguments) (card : Card) → AllBytes a.script → Starts card a.application → least_response f ≤ length a.response
    → length (run_script f a card).response ≡ length a.response
unfolding run_script accepted
script-keeps Compact a card small starts long =
    write-length a.response 0 _ (omega (arith, compact-few a.script small a.application a.domain card starts, long, compact_longest))
script-keeps Expanded a card small starts long =
    write-length a.response 0 _ (omega (arith, expanded-few a.script small a.application a.domain card starts (template_of a.script), long, expanded_longest))

pub memory_kept : (a : Arguments) (c : Card) → AllBytes a.script → length (run a c).response ≡ length a.response
unfolding run unless_refused
memory_kept a c small =
    on_test (λ (r : Result). length r.response ≡ length a.response) (eqb (first_given (run_refusals c a)) 0) _ _
    (λ e.
    let none = eqb-true (first_given (run_refusals c a)) 0 e in
    script-keeps (format_of a.format a.script) a (with_mark c) small (marked-starts c a none) (may_start c a none refl).response_long)
    (λ _. refl)

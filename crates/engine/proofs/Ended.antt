-- What a script comes to at its end: its answer has room, and with it the result is the definition's.
-- The code's last step and memories are, by the contract of the run, the state that the definition ends in; so what is proved of that
-- state holds of them. Compact: the data of the outcome lie in the memories (`outcome-inside`) and are no more than the room that number
-- 4 sees to (`compact_longest`), and the count is a byte
-- (`count-byte`). Expanded: the answer has at most ten bytes besides the R-APDUs (`answer-few`); kept bytes and last bytes stand one
-- after the other in the buffer, so one first part of it is both (`take-add`). With the answer written as promised the result is the
-- definition's (`compact-gives`, `value-gives`). Assumes nothing.
use mathlib.Core.Path.{◌≡◌, sym, ap, subst, ◌∙◌}
use mathlib.Core.Bool.{Bool, true, false}
use mathlib.Core.List.{List, ◌++◌}
use Prim.Native.Nat.{ℕ, ◌+◌, ◌≤◌, ◌<◌}
use native.Mathlib.Omega.{arith}
use lib.ListN.{length, take}
use lib.Seq.{take-add}
use Rattle.octets.specs.Bytes.{AllBytes, overwrite}
use Rattle.card.specs.Row.{Card, lent}
use Rattle.std.specs.Prelude.{Option, Some}
use Rattle.tlv.specs.declared.template.Template.{Template}
use Rattle.tlv.specs.declared.template.Template.TheVariants.{Definite, Indefinite}
use Rattle.tlv.specs.Templates.{template_of}
use Rattle.journal.specs.Promised.{Starts}
use Rattle.journal.specs.Changes.{with_journal, marked, with_mark, taken_back}
use Rattle.session.specs.Session.{most_waiting}
use Rattle.command.specs.declared.Format.TheVariants.{Compact, Expanded}
use Rattle.command.specs.declared.Step.{Step}
use Rattle.command.specs.Outcomes.{data_count}
use Rattle.command.specs.Promised.{OutcomeFits}
use Rattle.plan.specs.Plans.{most_read}
use Rattle.step.specs.Steps.{State, state_of}
use Rattle.step.proofs.Keeps.{starts_holds}
use Rattle.command.proofs.Outgoing.{data_few}
use Rattle.compact.specs.Compact as compact
use Rattle.compact.proofs.Runs.{run-keeps}
use Rattle.compact.proofs.Fits.{Inside, outcome-inside}
use Rattle.compact.proofs.Answered.{answer-length}
use Rattle.compact.proofs.Counts.{count-byte}
use Rattle.expanded.specs.declared.run.Gathered.{Gathered}
use Rattle.expanded.specs.Expanded as expanded
use Rattle.expanded.specs.Expanded.{Progress}
use Rattle.expanded.proofs.Written.{answer-few}
use Rattle.step.specs.Limits.{longest_script}
use Rattle.engine.specs.Numbers.{Arguments, least_response}
use Rattle.engine.specs.Calls.{Result, gives, accepted, run_value, run_script}
use Rattle.engine.specs.Promised.{AnswerFits}

-- the card with the journal that has the mark
pub with_mark_lem : (c : Card) {j : List ℕ} → j ≡ marked c.journal → lent c.table c.files j ≡ with_mark c
unfolding with_journal
with_mark_lem c e = ap (λ (j : List ℕ). lent c.table c.files j) e

pub begins : (c : Card) {j : List ℕ} → j ≡ marked c.journal → {application : ℕ} → Starts (with_mark c) application → Starts (lent c.table c.files j) application
begins c e {application} h = subst (λ (k : Card). Starts k application) (sym (with_mark_lem c e)) h

-- number 4 sees to room for the longest answer of each format
pub compact_longest : 3 + most_read Compact ≤ least_response Compact
unfolding most_read least_response
compact_longest = omega arith

pub expanded_longest : expanded.room_to_answer ≤ least_response Expanded
unfolding least_response
expanded_longest = omega arith

-- a compact script: its answer has room
pub compact-room : (script : List ℕ) → AllBytes script → {application : ℕ} (domain : ℕ) {card : Card} → Starts card application → length script ≤ longest_script
    → {step : Step} {after : Card} → state_of step after ≡ compact.run script application domain card
    → {response : ℕ} → least_response Compact ≤ response → OutcomeFits (length after.files) step.outcome × (step.count < 256) × (3 + data_count step.outcome ≤ response)
compact-room script small {application} domain {card} starts short {step} {after} e long =
    let holds = starts_holds card application starts in
    let inside = subst Inside (sym e) (outcome-inside script small (taken_back card) application domain card holds) in (
      inside.fits,
      subst (λ (st : State). st.step.count < 256) (sym e) (count-byte script application domain card short),
      omega (arith, inside.few, long, compact_longest),
    )

-- all its waiting bytes are there at its end
pub compact-waiting : (script : List ℕ) → AllBytes script → {application : ℕ} (domain : ℕ) {card : Card} → Starts card application
    → {step : Step} {after : Card} → state_of step after ≡ compact.run script application domain card → length step.session.waiting ≡ most_waiting
compact-waiting script small {application} domain {card} starts e =
    subst (λ (st : State). length st.step.session.waiting ≡ most_waiting) (sym e) (run-keeps script small (taken_back card) application domain card (starts_holds card application starts)).waiting

-- the answer is small
pub compact-small : (step : Step) (files : List ℕ) → OutcomeFits (length files) step.outcome → step.count < 256 → length step.session.waiting ≡ most_waiting
    → (n : ℕ) → n ≡ length (compact.answer step files) → AnswerFits (record { number = 0; length = n; count = step.count })
compact-small step files fits few all n e =
    let l = answer-length step files fits all in
    let d = data_few step.outcome (length files) fits in
    (omega arith, omega arith, omega arith)

-- and the result
pub compact-gives : (a : Arguments) (card : Card) (step : Step) (after : Card) (response : List ℕ) (n : ℕ) → state_of step after ≡ compact.run a.script a.application a.domain card
    → response ≡ overwrite a.response 0 (compact.answer step after.files) → n ≡ length (compact.answer step after.files)
    → gives (record { number = 0; length = n; count = step.count }) after response ≡ run_script Compact a card
unfolding run_script accepted
compact-gives a card step after response n e r l =
    (λ i. gives (record { number = 0; length = l i; count = step.count }) after (r i))
    ∙ ap (λ (st : State). accepted st (compact.answer st.step st.card.files) a.response) e

-- an expanded script: its answer is small
pub expanded-small : (definite : Bool) (count : ℕ) (rapdus : List ℕ) → length rapdus ≤ expanded.room_to_gather → count ≤ longest_script
    → (n : ℕ) → n ≡ length (expanded.answer_bytes definite count rapdus) → AnswerFits (record { number = 0; length = n; count = count })
expanded-small definite count rapdus few most n e = let a = answer-few definite count rapdus in (omega arith, omega arith, omega arith)

-- and the result
pub value-gives : (definite : Bool) (at end : ℕ) (a : Arguments) (card : Card) (g : Gathered) (after : Card) (out response : List ℕ) (n : ℕ)
    → expanded.progress_of g after out ≡ expanded.run_from (length a.script) a.script a.domain definite at end (expanded.begun a.application card)
    → response ≡ overwrite a.response 0 (expanded.answer_bytes definite g.step.count (take (g.rapdus.kept + g.rapdus.last) out))
    → n ≡ length (expanded.answer_bytes definite g.step.count (take (g.rapdus.kept + g.rapdus.last) out))
    → gives (record { number = 0; length = n; count = g.step.count }) after response ≡ run_value definite at end a card
unfolding run_value accepted expanded.progress_of
value-gives definite at end a card g after out response n e r l =
    (λ i. gives (record { number = 0; length = l i; count = g.step.count }) after (r i))
    ∙ (λ i. accepted (state_of g.step after) (expanded.answer_bytes definite g.step.count (take-add g.rapdus.kept g.rapdus.last out i)) a.response)
    ∙ ap (λ (p : Progress). accepted p.state (expanded.answer_bytes definite p.state.step.count (p.kept ++ p.last)) a.response) e

-- the value of a template of either form
module _ (a : Arguments) (card : Card) where
  abbrev with_template : Option Template → Result
  with_template t =
      let p : Progress = expanded.run t a.script a.application a.domain card in
      accepted p.state (expanded.answer t p) a.response

  pub definite-script : (at end : ℕ) → template_of a.script ≡ Some (Definite at end) → run_value true at end a card ≡ run_script Expanded a card
  unfolding run_value run_script expanded.run expanded.answer
  definite-script at end e = ap with_template (sym e)

  pub indefinite-script : (at end : ℕ) → template_of a.script ≡ Some (Indefinite at end) → run_value false at end a card ≡ run_script Expanded a card
  unfolding run_value run_script expanded.run expanded.answer
  indefinite-script at end e = ap with_template (sym e)

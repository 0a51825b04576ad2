-- What the engine answers is read back: the answer of each accepted run is read to its count and to the words and data of its replies.
-- An accepted run is its script on the card with the mark (`run-done`), and its answer stands whole in the response memory
-- (`answer-whole`). A compact one is read (`run-read`). An expanded one is made of good replies (`told-all`), with no more of them than
-- pieces that ran, and their bytes have room: so it is read as answers of good replies are
-- (`definite_read_lem`, `indefinite_read_lem`). Assumes nothing.
use Rattle.std.specs.Prelude.{Option, Some, None}
use Prim.Native.Nat.{ℕ, ◌+◌, ◌≤◌, ◌<◌}
use mathlib.Core.Path.{◌≡◌, refl, sym, ap, subst, ◌∙◌}
use mathlib.Core.Bool.{Bool, true, false, false≢true}
use mathlib.Core.List.{List, [], ◌++◌}
use native.Mathlib.Omega.{arith}
use lib.Dec.{leb}
use lib.ListN.{length, take, length-append}
use lib.Seq.{take-append_seam}
use borrow.Author.Tests.{leb-true, not-true}
use Rattle.octets.specs.Choice.{pick}
use Rattle.octets.specs.Bytes.{AllBytes, overwrite}
use Rattle.octets.proofs.Picks.{and_left, and_right}
use Rattle.card.specs.Row.{Card}
use Rattle.tlv.specs.declared.template.Template.{Template}
use Rattle.tlv.specs.declared.template.Template.TheVariants.{Definite, Indefinite}
use Rattle.tlv.specs.Lengths.{length_bytes}
use Rattle.tlv.specs.Templates.{template_of}
use Rattle.journal.specs.Promised.{Starts}
use Rattle.journal.specs.Changes.{with_mark, taken_back}
use Rattle.command.specs.declared.Format.{Format}
use Rattle.command.specs.declared.Format.TheVariants.{Compact, Expanded}
use Rattle.step.specs.Limits.{longest_script}
use Rattle.step.specs.Steps.{started}
use Rattle.step.proofs.Keeps.{starts_holds}
use Rattle.expanded.specs.Expanded as expanded
use Rattle.expanded.specs.Expanded.{Progress, begun, definite_body, definite_answer, indefinite_answer, answer_bytes}
use Rattle.expanded.proofs.Written.{answer-few}
use Rattle.engine.specs.Numbers.{Arguments, format_of, script_fits, is_missing, template_fits, first_given, run_refusals}
use Rattle.engine.specs.Calls.{Result, accepted, run_script, run}
use Rattle.engine.specs.Worked.{answer_of}
use Rattle.engine.proofs.RunNumbers.{is_met}
use Rattle.engine.proofs.Accepted.{marked-starts}
use Rattle.demands.specs.Called.{result_of, number}
use Rattle.demands.specs.Commands.{last_of, pieces_of, is_definite, piece_done, piece_goes_on, progress_after}
use Rattle.demands.specs.Demand2.{format_number}
use Rattle.demands.proofs.LawsRefused.{run-number, run-done}
use Rattle.demands.proofs.Commands.{expanded-runs}
use Rattle.exchange.specs.ReadBack.{Reply, standing, replies_of, IsRead, ReadBack}
use Rattle.exchange.proofs.Replies.{all_encoded}
use Rattle.exchange.proofs.Formed.{template-few, template-formed, after-few}
use Rattle.exchange.proofs.GoodCapdus.{Goes}
use Rattle.exchange.proofs.GoodRuns.{Told, told-all}
use Rattle.exchange.proofs.CompactRead.{run-read}
use Rattle.exchange.proofs.ReadAnswers.{definite_read_lem, indefinite_read_lem}

-- the answer stands whole in the response memory
answer-whole : (answer response : List ℕ) → take (length answer) (overwrite response 0 answer) ≡ answer
unfolding overwrite
answer-whole answer response = take-append_seam answer _

-- the value of AB is shorter than AB
body_few : (count : ℕ) (rapdus : List ℕ) → length (definite_body count rapdus) ≤ 10 + length rapdus
unfolding answer_bytes definite_answer pick
body_few count rapdus =
    omega (arith, answer-few true count rapdus, length-append (length_bytes (length (definite_body count rapdus))) (definite_body count rapdus))

-- the two forms of an expanded answer, of good replies, are read
told-read : (definite : Bool) (count : ℕ) (q : Progress) (rs : List Reply) → count < 32768 → Told definite [] count q rs
    → IsRead 1 (answer_bytes definite count (q.kept ++ q.last)) count rs
unfolding answer_bytes pick
told-read true count q rs few h =
    let room = h.room in
    subst (λ (l : List ℕ). IsRead 1 (definite_answer count l) count rs) (sym h.bytes)
    (definite_read_lem count rs few h.good h.few h.some (omega (arith, body_few count (all_encoded rs), ap length h.bytes)))
told-read false count q rs few h =
    subst (λ (l : List ℕ). IsRead 1 (indefinite_answer l) count rs) (sym h.bytes)
    (subst (λ (n : ℕ). IsRead 1 (indefinite_answer (all_encoded rs)) n rs) (h.all refl) (indefinite_read_lem rs h.good))

-- ---- an expanded script on a card that it starts from
module _ (script : List ℕ) (small : AllBytes script) (short : length script ≤ longest_script) (application domain : ℕ) (card : Card) (starts : Starts card application) where
  begins : Goes (taken_back card) (begun application card)
  unfolding begun started
  begins = record { holds = starts_holds card application starts; few = omega arith }

  module _ (template : Option Template) where
    abbrev ps : List Progress
    ps = progress_after template script application domain card

    abbrev rs : List Reply
    rs = standing (is_definite template) (pieces_of template script) ps

    abbrev end : Progress
    end = last_of (begun application card) ps

    all_told : Told (is_definite template) [] (length ps) end rs
    unfolding progress_after begun
    all_told = told-all (taken_back card) (is_definite template) domain application card (pieces_of template script) begins (template-formed script small template)

    ran_few : length ps < 32768
    unfolding progress_after
    ran_few =
        omega (arith, after-few (piece_done (is_definite template) domain) piece_goes_on (begun application card) (pieces_of template script), template-few script template)

    -- the answer of the progress that the script ends with
    abbrev Reads : Progress → Type 0
    Reads p = IsRead 1 (answer_bytes (is_definite template) p.state.step.count (p.kept ++ p.last)) p.state.step.count rs

    ends_read : Reads (expanded.run template script application domain card)
    ends_read =
        let runs = expanded-runs template script application domain card in
        let counted : end.state.step.count ≡ length ps = sym (ap (λ (p : Progress). p.state.step.count) runs.progress) ∙ runs.count in
        subst Reads (sym runs.progress)
        (subst (λ (n : ℕ). IsRead 1 (answer_bytes (is_definite template) n (end.kept ++ end.last)) n rs) (sym counted)
        (told-read (is_definite template) (length ps) end rs ran_few all_told))

  template-read : (template : Option Template) → is_missing template ≡ false
      → let p : Progress = expanded.run template script application domain card in
      IsRead 1 (expanded.answer template p) p.state.step.count (rs template)
  unfolding expanded.answer is_missing is_definite
  template-read (Some (Definite at end)) there = ends_read (Some (Definite at end))
  template-read (Some (Indefinite at end)) there = ends_read (Some (Indefinite at end))
  template-read None there = absurd (false≢true (sym there))

-- ---- an accepted run
module _ (a : Arguments) (c : Card) (small : AllBytes a.script) (none : first_given (run_refusals c a) ≡ 0) where
  accepted-read : (f : Format) → template_fits f a.script ≡ true → 1 ≤ length a.script → length a.script ≤ longest_script
      → IsRead (format_number f) (answer_of (run_script f a (with_mark c))) (run_script f a (with_mark c)).answer.count (replies_of f a c)
  unfolding run_script accepted answer_of format_number replies_of template_fits
  accepted-read Compact there some short =
      rw (answer-whole _ a.response) (run-read a.script small some a.application a.domain (with_mark c) (marked-starts c a none))
  accepted-read Expanded there some short =
      rw (answer-whole _ a.response) (template-read a.script small short a.application a.domain (with_mark c) (marked-starts c a none) (template_of a.script) (not-true _ there))

pub each_read : (a : Arguments) (c : Card) → AllBytes a.script → number (run a c) ≡ 0 → ReadBack a c
unfolding script_fits
each_read a c small ok =
    let none : first_given (run_refusals c a) ≡ 0 = sym (run-number a c) ∙ ok in
    let found = is_met c a none in
    let f : Format = format_of a.format a.script in
    let same : run a c ≡ run_script f a (with_mark c) = unfold result_of in run-done a c ok in
    record {
      read =
          subst (λ (r : Result). IsRead (format_number f) (answer_of r) r.answer.count (replies_of f a c)) (sym same)
          (accepted-read a c small none f found.5 (leb-true 1 (length a.script) (and_left _ _ found.2)) (leb-true (length a.script) longest_script (and_right (leb 1 (length a.script)) _ found.2)));
    }

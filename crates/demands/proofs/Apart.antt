-- Nothing crosses: an accepted run of a script that is bytes stays within its application, and leaves the entries and the file bytes of
-- the others.
-- What holds between the commands of a script (`Holds`) and what its commands leave alone (`Apart` of one command) go on together from
-- command to command (`command_goes`, `piece_goes`), so they hold after each that runs (`every_after`) and after the last
-- (`every_last`), which leaves the card of the run. The session is good there and of the application's root, so that its directory
-- and its file belong to it. Assumes nothing.
use Rattle.std.specs.Prelude.{Option, Some, None}
use Prim.Native.Nat.{ℕ, zero, suc, ◌+◌, ◌≤◌, ◌<◌}
use mathlib.Core.Path.{◌≡◌, refl, sym, subst, ◌∙◌}
use mathlib.Core.Bool.{Bool}
use mathlib.Core.List.{List, [], ◌∷◌}
use lib.Dec.{ltb}
use lib.ListN.{length}
use Rattle.octets.specs.Bytes.{byte, AllBytes}
use Rattle.octets.proofs.Picks.{on_pick, on_test}
use Rattle.card.specs.Row.{Card, entry}
use Rattle.tlv.specs.declared.template.Template.{Template}
use Rattle.tlv.specs.declared.template.Template.TheVariants.{Definite, Indefinite}
use Rattle.tlv.specs.Templates.{item_at, template_of}
use Rattle.journal.specs.declared.Memory.TheVariants.{Files, Table}
use Rattle.journal.specs.Changes.{memory_of, with_journal, with_mark, taken_back}
use Rattle.journal.proofs.Parts.{card-table}
use Rattle.command.specs.declared.Format.{Format}
use Rattle.command.specs.declared.Format.TheVariants.{Compact, Expanded}
use Rattle.plan.proofs.Own.{ReadsOwn}
use Rattle.decide.proofs.Planned.{planned_fit}
use Rattle.step.specs.Steps.{State, started, stepped}
use Rattle.step.proofs.Keeps.{Holds, starts_holds, command_holds}
use Rattle.step.proofs.Apart as step
use Rattle.step.proofs.Apart.{limited_fit, starts_apart, plan_apart}
use Rattle.compact.specs.Compact.{read_at, place_after}
use Rattle.compact.proofs.Runs as compact
use Rattle.expanded.specs.Capdu.{capdu_command}
use Rattle.expanded.specs.Expanded.{Progress, begun, answered, step_capdu, step_bad}
use Rattle.expanded.proofs.Runs as expanded
use Rattle.engine.specs.Numbers.{Arguments, format_of, first_given, run_refusals}
use Rattle.engine.specs.Calls.{Result, accepted, run_script}
use Rattle.engine.proofs.Accepted.{marked-starts}
use Rattle.demands.specs.Called.{running, result_of, number}
use Rattle.demands.specs.Commands.{after, last_of, Read, read_in, commands_from, commands_of, command_done, word_goes_on, states_after, Piece, capdu, bad_format, pieces_from, pieces_in, pieces_of, is_definite, piece_done, piece_goes_on, progress_after}
use Rattle.demands.specs.Apart.{Every, OthersKept, Within, Apart}
use Rattle.demands.proofs.LawsRefused.{run-number, run-done}
use Rattle.demands.proofs.Commands.{compact-runs, expanded-runs}

-- what each command keeps holds after each that runs, and after the last
module _ {S R : Type 0} (does : S → R → S) (on : S → Bool) (P : S → Type 0) (Q : R → Type 0) (keeps : (s : S) (r : R) → P s → Q r → P (does s r)) where
  every_after : (s : S) (rs : List R) → P s → Every Q rs → Every P (after does on s rs)
  unfolding after
  every_after s [] h q = tt
  every_after s (r ∷ rs) h q =
      let next = keeps s r h q.0 in
      (next, on_test (Every P) (on (does s r)) _ [] (λ _. every_after (does s r) rs next q.1) (λ _. tt))

every_last : {S : Type 0} (P : S → Type 0) (s : S) (rest : List S) → P s → Every P rest → P (last_of s rest)
unfolding last_of
every_last P s [] h all = h
every_last P s (next ∷ rest) h all = every_last P next rest all.0 all.1

every_so : {S : Type 0} (P Q : S → Type 0) (so : (s : S) → P s → Q s) (l : List S) → Every P l → Every Q l
every_so P Q so [] h = tt
every_so P Q so (s ∷ l) h = (so s h.0, every_so P Q so l h.1)

-- a C-APDU whose fifth byte is a byte, as those of a script that is bytes are
abbrev Small : Piece → Type 0
Small (capdu bytes) = byte bytes 4 < 256
Small (bad_format code) = Unit

-- ---- one command

module _ (root : ℕ) (back before : Card) where
  -- what goes on from command to command
  abbrev Goes : State → Type 0
  Goes st = Holds back st.step.session st.card × step.Apart root before st

  within : (st : State) → Goes st → Within root st
  unfolding ReadsOwn
  within st g =
      record {
        directory = g.0.good.directory.owner ∙ g.1.stays;
        file = λ some. (g.0.good.file some).belongs.owner ∙ g.1.stays;
        reads = λ word place n e.
            let r = subst (ReadsOwn st.card.table st.step.session.standing.file) e g.1.reads in
            record { some = r.0; least = r.1; most = r.2 };
      }

  command_goes : (domain : ℕ) (st : State) (r : Read) → Goes st → length r.«data» ≤ 255 → Goes (command_done domain st r)
  unfolding command_done stepped
  command_goes domain st r g brief =
      let s = st.step.session.standing in
      let sound = card-table st.card g.0.sound in (
        command_holds back st.step.session st.card g.0 Compact domain r.command r.«data» brief,
        plan_apart root before st g.1 sound _ (planned_fit Compact domain r.command r.«data» s st.card sound g.0.good brief),
      )

  capdu_apart : (definite : Bool) (domain : ℕ) (bytes : List ℕ) (p : Progress) → Goes p.state → byte bytes 4 < 256 → step.Apart root before (step_capdu definite domain bytes p).state
  unfolding step_capdu answered capdu_command
  capdu_apart definite domain bytes p g b =
      let st = p.state in
      let sound = card-table st.card g.0.sound in
      let next = plan_apart root before st g.1 sound _ (limited_fit Expanded domain _ _ st.step.session.standing st.card sound g.0.good (expanded.brief bytes (capdu_command bytes).from b) refl _ _) in
      on_pick (λ (q : Progress). step.Apart root before q.state) _ _ _ (λ _. next) (λ _. next)

  piece_goes : (definite : Bool) (domain : ℕ) (p : Progress) (piece : Piece) → Goes p.state → Small piece → Goes (piece_done definite domain p piece).state
  unfolding piece_done step_bad
  piece_goes definite domain p (capdu bytes) g b =
      (expanded.capdu_holds back definite domain bytes p b g.0, capdu_apart definite domain bytes p g b)
  piece_goes definite domain p (bad_format code) g b = (g.0, record { rows = g.1.rows; stays = g.1.stays; others = g.1.others; reads = g.1.reads })

-- ---- the commands of a script that is bytes

module _ (script : List ℕ) (small : AllBytes script) where
  commands_brief : (n at : ℕ) → Every (λ (r : Read). length r.«data» ≤ 255) (commands_from n script at)
  unfolding commands_from read_in
  commands_brief zero at = tt
  commands_brief (suc n) at =
      on_test (Every (λ (r : Read). length r.«data» ≤ 255)) (ltb at (length script)) _ []
      (λ _. (compact.brief script small at, commands_brief n (place_after (read_at script at))))
      (λ _. tt)

  pieces-small : (n at end : ℕ) → Every Small (pieces_from n script at end)
  unfolding pieces_from
  pieces-small zero at end = tt
  pieces-small (suc n) at end =
      expanded.on_item (Every Small) (item_at script at end) _ _ []
      (λ from size. (expanded.part_small script small from size 4, pieces-small n (from + size) end))
      (λ code. (tt, tt))
      tt

  template-small : (n : ℕ) (template : Option Template) → Every Small (pieces_in n template script)
  unfolding pieces_in
  template-small n (Some (Definite at end)) = pieces-small n at end
  template-small n (Some (Indefinite at end)) = pieces-small n at end
  template-small n None = tt

-- ---- an accepted run

module _ (a : Arguments) (c : Card) (small : AllBytes a.script) (none : first_given (run_refusals c a) ≡ 0) where
  abbrev GoesHere : State → Type 0
  GoesHere = Goes a.application (taken_back (with_mark c)) (with_mark c)

  begins : GoesHere (started a.application (with_mark c))
  unfolding started
  begins = (starts_holds (with_mark c) a.application (marked-starts c a none), starts_apart a.application (with_mark c))

  states : Every GoesHere (states_after a.script a.application a.domain (with_mark c))
  unfolding states_after commands_of
  states =
      every_after (command_done a.domain) word_goes_on GoesHere (λ (r : Read). length r.«data» ≤ 255) (command_goes a.application (taken_back (with_mark c)) (with_mark c) a.domain)
      (started a.application (with_mark c)) (commands_of a.script) begins (commands_brief a.script small (length a.script) 0)

  abbrev template : Option Template
  template = template_of a.script

  progress : Every (λ (p : Progress). GoesHere p.state) (progress_after template a.script a.application a.domain (with_mark c))
  unfolding progress_after pieces_of begun
  progress =
      every_after (piece_done (is_definite template) a.domain) piece_goes_on (λ (p : Progress). GoesHere p.state) Small (piece_goes a.application (taken_back (with_mark c)) (with_mark c) (is_definite template) a.domain)
      (begun a.application (with_mark c)) (pieces_of template a.script) begins (template-small a.script small (length a.script) template)

  others : (st : State) → GoesHere st → OthersKept a.application c st.card
  unfolding entry memory_of with_journal
  others st g =
      record {
        table_bytes = λ e o. g.1.others Table e o.inside o.elsewhere;
        file_bytes = λ e o. g.1.others Files e o.inside o.elsewhere;
      }

  ends : (f : Format) → OthersKept a.application c (run_script f a (with_mark c)).card
  unfolding run_script accepted begun
  ends Compact =
      subst (λ (st : State). OthersKept a.application c st.card) (sym (compact-runs a.script a.application a.domain (with_mark c)).state)
      (others _ (every_last GoesHere (started a.application (with_mark c)) _ begins states))
  ends Expanded =
      subst (λ (p : Progress). OthersKept a.application c p.state.card) (sym (expanded-runs template a.script a.application a.domain (with_mark c)).progress)
      (others _ (every_last (λ (p : Progress). GoesHere p.state) (begun a.application (with_mark c)) _ begins progress))

pub apart : (a : Arguments) (c : Card) → AllBytes a.script → number (result_of (running a) c) ≡ 0 → Apart a c (result_of (running a) c).card
apart a c small ok =
    let none : first_given (run_refusals c a) ≡ 0 = unfold result_of in sym (run-number a c) ∙ ok in
    let stays = within a.application (taken_back (with_mark c)) (with_mark c) in
    record {
      compact = λ _. every_so _ _ stays (states_after a.script a.application a.domain (with_mark c)) (states a c small none);
      expanded = λ _. every_so _ _ (λ (p : Progress). stays p.state) (progress_after (template_of a.script) a.script a.application a.domain (with_mark c)) (progress a c small none);
      others =
          subst (λ (r : Result). OthersKept a.application c r.card) (sym (run-done a c ok)) (ends a c small none (format_of a.format a.script));
    }

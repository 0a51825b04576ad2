-- A run that meets no number: what it finds, what its script starts from, and that the run is its script.
-- Where no number is given, all six tests have passed (`is_met`), and what is known of card and arguments is one of them taken apart:
-- a sound card, an application that is the root of its files, a short script, and room for one more mark. A mark with room keeps the
-- card sound (`mark-sound`) and puts a script on trial, so with it the card is one that a script starts from (`marked-starts`). The
-- definition of a run is then its script's (`done`), which the format and the template single out: `compact-run`, `definite-run`,
-- `indefinite-run`. Assumes nothing.
use mathlib.Core.Path.{◌≡◌, sym, ap, ◌∙◌}
use mathlib.Core.Bool.{true, false, ◌&&◌}
use Prim.Native.Nat.{ℕ, ◌≤◌, ◌<◌}
use native.Mathlib.Omega.{arith}
use lib.Dec.{leb, ltb}
use lib.ListN.{length}
use borrow.Author.Tests.{leb-true, ltb-true}
use Rattle.octets.proofs.Picks.{and_left, and_right}
use Rattle.card.specs.Row.{Card, entries, row_of}
use Rattle.card.specs.Tree.{is_root}
use Rattle.std.specs.Prelude.{Some}
use Rattle.tlv.specs.declared.template.Template.TheVariants.{Definite, Indefinite}
use Rattle.tlv.specs.Templates.{template_of}
use Rattle.journal.specs.Entries.{scripts_on_trial, entry_bytes}
use Rattle.journal.specs.Promised.{HasRoom, Starts}
use Rattle.journal.specs.Sound.{most_scripts, mark_fits, sound_card}
use Rattle.journal.specs.Changes.{with_journal, marked, with_mark}
use Rattle.journal.proofs.Parts.{card_parts, card-table, room-left}
use Rattle.journal.proofs.Pushed.{marked_scripts}
use Rattle.journal.proofs.Kept.{mark-sound}
use Rattle.command.specs.declared.Format.{Format}
use Rattle.command.specs.declared.Format.TheVariants.{Compact, Expanded}
use Rattle.step.specs.Limits.{longest_script}
use Rattle.engine.specs.Numbers.{numbered, Arguments, format_of, format_known, script_fits, first_given, run_refusals}
use Rattle.engine.specs.Calls.{Result, gives, unless_refused, run_value, run_script, run}
use Rattle.engine.specs.Promised.{RunScriptAsks}
use Rattle.engine.proofs.RunNumbers.{RunMet, is_met}
use Rattle.engine.proofs.Refusals.{arguments_root}
use Rattle.engine.proofs.Answers.{given_nothing, given-done}
use Rattle.engine.proofs.Ended.{definite-script, indefinite-script}

module _ (c : Card) (a : Arguments) (none : first_given (run_refusals c a) ≡ 0) where
  found : RunMet c a 0
  found = is_met c a none

  pub is-sound : sound_card c ≡ true
  is-sound = found.0

  script_short_lem : length a.script ≤ longest_script
  unfolding script_fits
  script_short_lem = leb-true (length a.script) longest_script (and_right (leb 1 (length a.script)) _ found.2)

  few_scripts : scripts_on_trial c.journal < most_scripts
  unfolding mark_fits
  few_scripts = ltb-true (scripts_on_trial c.journal) most_scripts (and_left _ _ found.4)

  pub mark-room : HasRoom c.journal (entry_bytes 0)
  unfolding mark_fits
  mark-room = room-left c.table c.files c.journal _ (card_parts c is-sound) (leb-true _ _ (and_right (ltb (scripts_on_trial c.journal) most_scripts) _ found.4))

  application : (ltb a.application (entries c.table) && is_root (row_of c.table a.application)) ≡ true
  application = and_left _ _ (and_right (format_known a.format) _ (sym (arguments_root c.table c.files (card-table c is-sound) a) ∙ found.1))

  inside : a.application < entries c.table
  inside = ltb-true a.application (entries c.table) (and_left _ _ application)

  root : is_root (row_of c.table a.application) ≡ true
  root = and_right (ltb a.application (entries c.table)) _ application

  -- the mark is on the card
  marked-sound : sound_card (with_mark c) ≡ true
  marked-sound = mark-sound c is-sound mark-room few_scripts

  marked_trial : 1 ≤ scripts_on_trial (marked c.journal)
  marked_trial = rw (marked_scripts c.journal mark-room) (omega arith)

  pub marked-starts : Starts (with_mark c) a.application
  unfolding with_journal
  marked-starts = record { sound = marked-sound; marked = marked_trial; inside = inside; root = root }

  -- the script of its format can be run
  pub may_start : {f : Format} → format_of a.format a.script ≡ f → RunScriptAsks f c a
  may_start e =
      record {
        room = mark-room;
        trials = omega (arith, few_scripts);
        starts = marked-starts;
        script_short = script_short_lem;
        response_long = rw e at found.3;
      }

  -- what it is, by its format and its template; a script looks at its own arguments alone
  done : {r : Result} → r ≡ run_script (format_of a.format a.script) a (with_mark c) → r ≡ run a c
  unfolding run
  done e = e ∙ sym (given-done _ c a.response _ none)

  expanded : format_of a.format a.script ≡ Expanded → run_script Expanded a (with_mark c) ≡ run a c
  expanded f = done (rw f)

  pub compact-run : format_of a.format a.script ≡ Compact → run_script Compact a (with_mark c) ≡ run a c
  compact-run f = done (rw f)

  pub definite-run : {at end : ℕ} → format_of a.format a.script ≡ Expanded → template_of a.script ≡ Some (Definite at end) → run_value true at end a (with_mark c) ≡ run a c
  definite-run f t = definite-script a _ _ _ t ∙ expanded f

  pub indefinite-run : {at end : ℕ} → format_of a.format a.script ≡ Expanded → template_of a.script ≡ Some (Indefinite at end) → run_value false at end a (with_mark c) ≡ run a c
  indefinite-run f t = indefinite-script a _ _ _ t ∙ expanded f

-- a number that is not 0 refuses the run
pub refused-run : (c : Card) (a : Arguments) (n : ℕ) → n ≡ first_given (run_refusals c a) → (n ≡ 0 → ⊥) → gives (numbered n) c a.response ≡ run a c
unfolding run
refused-run c a n e z =
    let r = run_script (format_of a.format a.script) a (with_mark c) in
    sym (given_nothing n c a.response r z) ∙ ap (λ (m : ℕ). unless_refused m c a.response r) e

-- "What the builder writes must be understood by the engine as exactly that list.": every build that is not refused is understood, and no two
-- lists give one script.
-- A build that is not refused has written the script of its list, whose operations are all carried (`is-built`); its format is 0 or 1, and for
-- each the reading of the script was worked out (`commands_are`, `pieces_are`). Numbers 3 and 6 would need a script that does not fit, or one
-- without a template (`never_3`, `never_6`). Two lists with one script have the same commands, from which both are told. Assumes nothing.
use Rattle.std.specs.Prelude.{Option}
use Prim.Native.Nat.{ℕ, ◌≤◌}
use mathlib.Core.Path.{◌≡◌, refl, sym, ap, subst, ◌∙◌}
use mathlib.Core.Bool.{true, false, not, false≢true}
use mathlib.Core.List.{List}
use mathlib.Core.Logic.{◌⊎◌, inl, inr, ⊎_elim}
use native.Mathlib.Omega.{arith}
use lib.Dec.{leb}
use lib.ListN.{length}
use borrow.Author.Tests.{leb-true, leb-false, le-leb}
use Rattle.octets.specs.Choice.{pick}
use Rattle.octets.proofs.Picks.{either, and_both}
use Rattle.card.specs.Row.{Card}
use Rattle.tlv.specs.declared.template.Template.{Template}
use Rattle.command.specs.declared.Format.{Format}
use Rattle.command.specs.declared.Format.TheVariants.{Compact, Expanded}
use Rattle.step.specs.Limits.{longest_script}
use Rattle.engine.specs.Numbers.{Arguments, detected, format_of, script_fits, is_missing, template_fits}
use Rattle.demands.specs.Called.{running, result_of, number}
use Rattle.demands.specs.Commands.{Read}
use Rattle.demands.proofs.LawsRefused.{run_met}
use Rattle.operations.specs.declared.rows.Operation.{Operation}
use Rattle.operations.specs.Rows.{operations_of}
use Rattle.operations.specs.Carried.{is_none}
use Rattle.operations.specs.Scripts.{header_of, compact_of, written_as, all_written, templated, script_of}
use Rattle.operations.specs.Builds.{build}
use Rattle.exchange.specs.Understood.{list_commands, capdu_commands, all_asked, all_asked_by, written, Understood, EachUnderstood, OneList}
use Rattle.exchange.proofs.Carried.{AllCarried, none, more}
use Rattle.exchange.proofs.Built.{is-built}
use Rattle.exchange.proofs.Commanded.{no_template, all_told}
use Rattle.exchange.proofs.Compact.{commands_are}
use Rattle.exchange.proofs.Capdus.{all-capdus}
use Rattle.exchange.proofs.Expanded.{template-runs, pieces_are}

-- ---- the numbers that are not given

module _ (script : List ℕ) (a : Arguments) (c : Card) (is : a.script ≡ script) where
  never_3 : 1 ≤ length script → length script ≤ longest_script → number (result_of (running a) c) ≡ 3 → ⊥
  unfolding script_fits
  never_3 some short e =
      let fits : script_fits script ≡ true = and_both _ _ (le-leb 1 (length script) some) (le-leb (length script) longest_script short) in
      false≢true (sym ((run_met a c 3).0 e).2 ∙ ap script_fits is ∙ fits)

  never_6 : (f : Format) → format_of a.format script ≡ f → template_fits f script ≡ true → number (result_of (running a) c) ≡ 6 → ⊥
  never_6 f format fits e =
      false≢true (sym ((run_met a c 6).0 e).5 ∙ ap (λ (s : List ℕ). template_fits (format_of a.format s) s) is ∙ ap (λ (g : Format). template_fits g script) format ∙ fits)

-- the format of a run by its number: its own, or the one that is found
format_number_lem : (format : ℕ) (script : List ℕ) {n : ℕ} → n ≡ format → format_of n script ≡ format_of format script
format_number_lem format script e = ap (λ (m : ℕ). format_of m script) e

-- ---- a script of each format

-- a compact one has a byte, and its first is no template's
compact-found : («data» : List ℕ) {os : List Operation} → is_none os ≡ false → AllCarried 0 (length «data») os
    → (1 ≤ length (all_written 0 «data» os)) × (detected (all_written 0 «data» os) ≡ Compact)
unfolding is_none detected all_written written_as compact_of header_of pick
compact-found «data» some none = absurd (false≢true (sym some))
compact-found «data» some (more {o = o} c cs) = (omega arith, rw (no_template o c.mode))

module _ (list «data» : List ℕ) where
  abbrev os : List Operation
  os = operations_of list

  compact-understood : is_none os ≡ false → AllCarried 0 (length «data») os → length (script_of 0 «data» os) ≤ longest_script → Understood 0 list «data» (script_of 0 «data» os)
  unfolding script_of format_of template_fits pick
  compact-understood some cs short =
      let found = compact-found «data» some cs in
      let script = all_written 0 «data» os in
      record {
        compact = λ _. commands_are «data» cs;
        template = λ e. absurd (omega arith);
        pieces = λ e. absurd (omega arith);
        capdus = all-capdus «data» cs;
        told = all_told 0 «data» cs;
        found = found.1;
        length = λ a c is. never_3 script a c is found.0 short;
        own_format = λ a c is e. never_6 script a c is Compact (format_number_lem 0 script e) refl;
        detection = λ a c is e. never_6 script a c is Compact (format_number_lem 2 script e ∙ found.1) refl;
      }

  expanded-understood : AllCarried 1 (length «data») os → length (script_of 1 «data» os) ≤ longest_script → Understood 1 list «data» (script_of 1 «data» os)
  unfolding script_of templated detected format_of template_fits is_missing pick
  expanded-understood cs short =
      let script = templated (all_written 1 «data» os) in
      let runs = template-runs «data» cs short in
      let fits : template_fits Expanded script ≡ true = ap (λ (t : Option Template). not (is_missing t)) runs in
      record {
        compact = λ e. absurd (omega arith);
        template = λ _. (_, runs);
        pieces = λ _. pieces_are «data» cs short;
        capdus = all-capdus «data» cs;
        told = all_told 1 «data» cs;
        found = refl;
        length = λ a c is. never_3 script a c is (omega arith) short;
        own_format = λ a c is e. never_6 script a c is Expanded (format_number_lem 1 script e) fits;
        detection = λ a c is e. never_6 script a c is Expanded (format_number_lem 2 script e) fits;
      }

-- ---- a build

-- the format of a list with an operation that is carried
format-is : {format size : ℕ} {os : List Operation} → is_none os ≡ false → AllCarried format size os → (format ≡ 0) ⊎ (format ≡ 1)
unfolding is_none
format-is some none = absurd (false≢true (sym some))
format-is {format} some (more c cs) =
    ⊎_elim (λ y. let low = leb-true format 0 y in inl (omega arith)) (λ n. let high = leb-false format 0 n in inr (omega arith)) (either (leb format 0))

script-understood : (format : ℕ) (list «data» : List ℕ) → is_none (operations_of list) ≡ false → AllCarried format (length «data») (operations_of list)
    → length (script_of format «data» (operations_of list)) ≤ longest_script → Understood format list «data» (script_of format «data» (operations_of list))
script-understood format list «data» some cs =
    let os = operations_of list in
    let P : ℕ → Type 0 =
    λ f. AllCarried f (length «data») os → length (script_of f «data» os) ≤ longest_script → Understood f list «data» (script_of f «data» os) in
    ⊎_elim (λ e. subst P (sym e) (compact-understood list «data» some)) (λ e. subst P (sym e) (expanded-understood list «data»)) (format-is some cs) cs

pub each_understood : EachUnderstood
each_understood format list «data» memory e =
    let b = is-built format list «data» memory e in
    subst (Understood format list «data») (sym b.script.is) (script-understood format list «data» b.some b.carried b.script.short)

-- two lists that are understood from one script have the same commands
module _ (format : ℕ) (list «data» list' data' script : List ℕ) (u : Understood format list «data» script) (v : Understood format list' data' script) where
  abbrev listed : ℕ → List Read
  listed f = list_commands f «data» (operations_of list)

  abbrev listed' : ℕ → List Read
  listed' f = list_commands f data' (operations_of list')

  same-compact : format ≡ 0 → listed 0 ≡ listed' 0
  same-compact e = sym (u.compact e) ∙ v.compact e

  same-expanded : format ≡ 1 → listed 1 ≡ listed' 1
  same-expanded e = sym u.capdus ∙ ap capdu_commands (sym (u.pieces e) ∙ v.pieces e) ∙ v.capdus

  same_asked : (format ≡ 0) ⊎ (format ≡ 1) → all_asked «data» (operations_of list) ≡ all_asked data' (operations_of list')
  same_asked which =
      let same = ⊎_elim (λ e. ap listed e ∙ same-compact e ∙ ap listed' (sym e)) (λ e. ap listed e ∙ same-expanded e ∙ ap listed' (sym e)) which in
      sym u.told ∙ ap all_asked_by same ∙ v.told

pub one_list_lem : OneList
one_list_lem format list «data» memory list' data' memory' e e' same =
    let b = is-built format list «data» memory e in
    same_asked format list «data» list' data' (written (build format list «data» memory)) (each_understood format list «data» memory e)
    (subst (Understood format list' data') (sym same) (each_understood format list' data' memory' e')) (format-is b.some b.carried)

-- How a run starts: what the tests that it passed make its start, and what its start says of it. Assumes nothing.
use mathlib.Core.Path.{◌≡◌, refl, sym, ap, subst, ◌∙◌}
use mathlib.Core.Bool.{true, false, false≢true}
use mathlib.Core.List.{List}
use mathlib.Core.Logic.{⊎_elim}
use Prim.Native.Nat.{ℕ, ◌≤◌}
use native.Mathlib.Omega.{arith}
use lib.Dec.{eqb}
use lib.ListN.{length}
use borrow.Author.Tests.{eqb-true, eqb-false, leb-true, not-false}
use Rattle.octets.proofs.Picks.{eq_yes, eq_no, on_pick, either, and_left}
use Rattle.card.specs.Row.{Card}
use Rattle.tlv.specs.declared.template.Template.{Template}
use Rattle.tlv.specs.Templates.{template_of}
use Rattle.journal.specs.Sound.{mark_fits, sound_card}
use Rattle.command.specs.declared.Format.{Format}
use Rattle.command.specs.declared.Format.TheVariants.{Compact, Expanded}
use Rattle.engine.specs.declared.numbers.Start.{Start}
use Rattle.std.specs.Prelude.{Option, Some, None, Result, Ok, Err}
use Rattle.engine.specs.declared.numbers.Start.TheVariants as starts
use Rattle.engine.specs.Numbers.{Arguments, format_of, arguments_fit, script_fits, least_response, is_missing, template_fits, first_given, run_refusals, template_start, script_start, start_of}
use Rattle.engine.proofs.RunNumbers.{RunMet, meets, is_met}

-- a script of a length that is taken has a first byte
pub has_first : (script : List ℕ) → script_fits script ≡ true → 1 ≤ length script
unfolding script_fits
has_first script e = leb-true 1 (length script) (and_left _ _ e)

-- a script without the template that its format asks for
template-refused : (t : Option Template) → is_missing t ≡ true → template_start t ≡ Err 6
unfolding is_missing template_start
template-refused (Some template) e = absurd (false≢true e)
template-refused None e = refl

script-refused : (f : Format) (script : List ℕ) → template_fits f script ≡ false → script_start f script ≡ Err 6
unfolding template_fits script_start
script-refused Compact script e = absurd (false≢true (sym e))
script-refused Expanded script e = template-refused (template_of script) (not-false (is_missing (template_of script)) e)

-- an expanded script whose template is known
pub expanded-start : {f : Format} (script : List ℕ) {found t : Option Template} → f ≡ Expanded → found ≡ template_of script → found ≡ t → template_start t ≡ script_start f script
unfolding script_start
expanded-start script f e t = ap template_start (sym t ∙ e) ∙ ap (λ (g : Format). script_start g script) (sym f)

module _ (c : Card) (a : Arguments) where
  abbrev number : ℕ
  number = first_given (run_refusals c a)

  abbrev format : Format
  format = format_of a.format a.script

  -- a number that is given refuses it
  pub refused-start : (n : ℕ) → 1 ≤ n → RunMet c a n → Err n ≡ start_of c a
  unfolding start_of
  refused-start n some met = let e = meets c a n met in eq_no number 0 _ (λ z. omega arith) (ap (λ (k : ℕ). Err k) e)

  -- past all tests but that of its template, its script starts, or has no template
  pub script_start_lem : sound_card c ≡ true → arguments_fit c.table a ≡ true → script_fits a.script ≡ true → least_response format ≤ length a.response → mark_fits c.journal ≡ true
      → script_start format a.script ≡ start_of c a
  unfolding start_of
  script_start_lem s g f r m =
      ⊎_elim
      (λ t. eq_yes number 0 _ (sym (meets c a 0 (s, g, f, r, m, t))) refl)
      (λ t. script-refused format a.script t ∙ refused-start 6 (omega arith) (s, g, f, r, m, t))
      (either (template_fits format a.script))

  -- what a start says: the number that is given; or that none is, the format, and the template
  abbrev pub Says : Result Start ℕ → Type 0
  Says (Err n) = (n ≡ number) × (1 ≤ n)
  Says (Ok starts.Compact) = (number ≡ 0) × (format ≡ Compact)
  Says (Ok (starts.Expanded template)) = (number ≡ 0) × (format ≡ Expanded) × (template_of a.script ≡ Some template)

  template-says : number ≡ 0 → format ≡ Expanded → (t : Option Template) → template_of a.script ≡ t → Says (template_start t)
  unfolding template_start template_fits is_missing
  template-says none f (Some template) t = (none, f, t)
  template-says none f None t = absurd (false≢true (rw (f, t) at (is_met c a none).5))

  script-says : number ≡ 0 → (f : Format) → format ≡ f → Says (script_start f a.script)
  unfolding script_start
  script-says none Compact f = (none, f)
  script-says none Expanded f = template-says none f (template_of a.script) refl

  start-says : Says (start_of c a)
  unfolding start_of
  start-says =
      on_pick Says (eqb number 0) _ _
      (λ z. script-says (eqb-true number 0 z) format refl)
      (λ z. let some = eqb-false number 0 z in (refl, omega arith))

  pub says : {s : Result Start ℕ} → s ≡ start_of c a → Says s
  says e = subst Says (sym e) start-says

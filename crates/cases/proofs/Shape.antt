-- What the shape of a case gives: how long its parts are, and that they are hex digits; and what is printed of a line. Assumes nothing.
use mathlib.Core.Path.{◌≡◌, sym, ap, ◌∙◌}
use mathlib.Core.Bool.{true, ◌&&◌}
use mathlib.Core.List.{List}
use Prim.Native.Nat.{ℕ, ◌*◌, ◌≤◌}
use lib.Dec.{leb}
use lib.ListN.{length}
use lib.Seq.{length-take-le}
use borrow.Author.Tests.{leb-true, le-leb}
use Rattle.journal.specs.Sound.{journal_length}
use Rattle.step.specs.Limits.{longest_script}
use Rattle.octets.proofs.Picks.{and_left, and_right}
use Rattle.std.specs.Prelude.{Option, Some, None}
use Rattle.lines.specs.Digits.{few_hex}
use Rattle.cases.specs.declared.input.Case.{Case}
use Rattle.cases.specs.Cases.{longest_label, case_of, label_of, journal_of, script_of, CaseFits, is_case, case_line, printed, printed_of}

-- label, journal and script
module _ (label journal script : List ℕ) (shape : is_case label journal script ≡ true) where
  pub label_short_lem : length label ≤ 64
  unfolding is_case
  label_short_lem = leb-true (length label) 64 (and_left _ _ shape)

  both : (few_hex (2 * journal_length) journal && few_hex (2 * longest_script) script) ≡ true
  unfolding is_case
  both = and_right (leb (length label) 64) _ shape

  pub journal_digits : few_hex (2 * journal_length) journal ≡ true
  journal_digits = and_left _ _ both

  pub script_digits : few_hex (2 * longest_script) script ≡ true
  script_digits = and_right (few_hex (2 * journal_length) journal) _ both

-- the case of a line has that shape
module _ (line : List ℕ) (c : Case) (fits : CaseFits line c) where
  pub case_shaped : is_case (label_of line c) (journal_of line c) (script_of line c) ≡ true
  unfolding is_case
  case_shaped =
      let l : length (label_of line c) ≡ c.label = length-take-le c.label line fits.labelled in
      rw (le-leb (length (label_of line c)) longest_label (rw l fits.label), fits.journal.digits, fits.script.digits)

-- what is printed of a line
module _ (line : List ℕ) where
  pub printed-bad : {a : Option Case} → a ≡ case_of line → a ≡ None → printed line ≡ printed_of line None
  unfolding printed
  printed-bad e b = ap (printed_of line) (sym e ∙ b)

  pub printed-case : (c : Case) {a : Option Case} → a ≡ case_of line → a ≡ Some c
      → case_line (label_of line c) c.call (journal_of line c) (script_of line c) ≡ printed line
  unfolding printed printed_of
  printed-case c e b = ap (printed_of line) (sym b ∙ e)

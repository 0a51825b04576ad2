-- What is printed for a text: by its first line, and by the list behind it; and a text that ends where it is too long. Assumes nothing.
use mathlib.Core.Path.{◌≡◌, sym, ap, ◌∙◌}
use mathlib.Core.List.{List, [], ◌∷◌, ◌++◌}
use Prim.Native.Nat.{ℕ, ◌+◌, ◌≤◌}
use lib.ListN.{length, take, drop_of_length-le}
use mir.Syntax.{w16}
use Rattle.std.specs.Int.{to_be_bytes}
use Rattle.octets.specs.Bytes.{bytes2, overwrite}
use Rattle.lines.specs.Digits.{ascii}
use Rattle.lines.specs.Named.{line_feed}
use Rattle.std.specs.Prelude.{Option, Some, None}
use Rattle.lines.specs.Values.{number_at, then}
use Rattle.desk.specs.Lists.{Listed, list_from}
use Rattle.desk.specs.Builds.{bad_lines, listed_lines, printed_for}

-- one sign in place of all from a place on
pub cut : (text : List ℕ) (p b : ℕ) → length text ≤ p + 1 → overwrite text p (b ∷ []) ≡ take p text ++ (b ∷ [])
unfolding overwrite
cut text p b h = rw (drop_of_length-le text h)

-- the two bytes of a word
pub two_bytes : (n : ℕ) {bs : List ℕ} → bs ≡ to_be_bytes w16 n → bs ≡ bytes2 n
unfolding bytes2
two_bytes n e = e

-- what is printed, by what the first line gave
module _ (text : List ℕ) {f : Option (ℕ × ℕ)} (reads : f ≡ number_at text 0 (ascii "format=") line_feed 10 1 1) where
  pub printed-bad : f ≡ None → bad_lines 1 ≡ printed_for text
  unfolding printed_for then
  printed-bad e = rw (sym reads ∙ e)

  pub printed-list : (format second : ℕ) {l : Listed} → f ≡ Some (format, second) → l ≡ list_from (length text + 1) text second 2 [] [] → listed_lines format l ≡ printed_for text
  unfolding printed_for then
  printed-list format second e h = rw (sym reads ∙ e) (ap (listed_lines format) h)

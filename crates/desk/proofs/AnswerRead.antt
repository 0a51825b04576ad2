-- What is printed at each way out of reading the lines. Assumes nothing.
use mathlib.Core.Path.{◌≡◌, refl, sym}
use mathlib.Core.List.{List}
use Prim.Native.Nat.{ℕ, ◌+◌, ◌-◌, ◌≤◌, ◌<◌}
use lib.ListN.{length}
use Rattle.octets.specs.Bytes.{part}
use Rattle.octets.proofs.Picks.{lt_yes, lt_no}
use Rattle.answers.specs.Answers.{read_answer}
use Rattle.std.specs.Prelude.{Some, None}
use Rattle.lines.specs.Digits.{ascii, decoded}
use Rattle.lines.specs.Named.{line_feed}
use Rattle.lines.specs.Values.{number_at, hex_at, then}
use Rattle.desk.specs.Builds.{bad_lines}
use Rattle.desk.specs.Reads.{most_answer_digits, answered_lines, answer_in, told}

-- what is printed, by the line at which the reading stops
module _ (text : List ℕ) where
  pub told-first : number_at text 0 (ascii "format=") line_feed 10 1 1 ≡ None → told text ≡ bad_lines 1
  unfolding told then
  told-first none = rw none

  module _ (format second : ℕ) (first : number_at text 0 (ascii "format=") line_feed 10 1 1 ≡ Some (format, second)) where
    pub told_second : hex_at text second (ascii "answer=") line_feed most_answer_digits ≡ None → told text ≡ bad_lines 2
    unfolding told then answer_in
    told_second none = rw (first, none)

    module _ (from to : ℕ) (digits : hex_at text second (ascii "answer=") line_feed most_answer_digits ≡ Some (from, to)) where
      pub told_third : to + 1 < length text → told text ≡ bad_lines 3
      unfolding told then answer_in
      told_third more = rw (first, digits) (sym (lt_yes (to + 1) (length text) _ more refl))

      pub told-answer :
          length text ≤ to + 1
          → told text
          ≡ answered_lines format (decoded (part text from (to - from))) (read_answer format (decoded (part text from (to - from))))
      unfolding told then answer_in
      told-answer last = rw (first, digits) (sym (lt_no (to + 1) (length text) _ last refl))

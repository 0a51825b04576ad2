-- What is printed, by the shape of an input. Assumes nothing.
use mathlib.Core.Path.{refl, ap, ◌≡◌}
use mathlib.Core.List.{List}
use Prim.Native.Nat.{ℕ, ◌-◌}
use Rattle.octets.specs.Bytes.{part}
use Rattle.std.specs.Prelude.{Some, None, take}
use Rattle.lines.specs.Digits.{decoded}
use Rattle.octets.specs.Bytes.{zeros}
use Rattle.journal.specs.Sound.{journal_length}
use Rattle.journal.specs.Entries.{used_bytes, scripts_on_trial}
use Rattle.engine.specs.Calls.{Result}
use Rattle.engine.specs.Worked.{worked, lent_response, answer_of}
use Rattle.engine.specs.declared.Call.{Call}
use Rattle.lines.specs.Calls.{run_on_worked}
use Rattle.worked.specs.declared.input.Asked.{Asked}
use Rattle.worked.specs.Input.{input_of}
use Rattle.worked.specs.Printed.{five_lines, result_lines, ran_on, bad_line, lines_for, printed}

-- what is printed
module _ (bs : List ℕ) where
  pub printed-bad : input_of bs ≡ None → printed bs ≡ bad_line
  unfolding printed lines_for
  printed-bad e = rw e

  pub printed-run : (a : Asked) → input_of bs ≡ Some a → printed bs ≡ result_lines (ran_on a.call (decoded (part bs a.from (a.to - a.from))))
  unfolding printed lines_for
  printed-run a e = rw e

-- the lines of what a run on the worked card gave
module _ (call : Call) (script : List ℕ) where
  abbrev given : Result
  given = run_on_worked call script (zeros lent_response) (zeros journal_length)

  given_is : given ≡ ran_on call script
  unfolding run_on_worked ran_on worked
  given_is = refl

  pub lines_are : {number count n : ℕ} {response journal : List ℕ} → number ≡ given.answer.number → count ≡ given.answer.count → n ≡ given.answer.length → response ≡ given.response → journal ≡ given.card.journal
      → five_lines number count (take n response) (used_bytes journal) (scripts_on_trial journal) ≡ result_lines (ran_on call script)
  unfolding result_lines answer_of
  lines_are e₁ e₂ e₃ e₄ e₅ = rw (e₁, e₂, e₃, e₄, e₅) (ap result_lines given_is)

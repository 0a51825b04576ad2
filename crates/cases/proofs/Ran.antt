-- What is put of a run is its line, and the line of a case is that of its run. Assumes nothing.
use mathlib.Core.Path.{◌≡◌, refl, ap}
use mathlib.Core.List.{List, [], ◌∷◌}
use Prim.Native.Nat.{ℕ, zero, suc, ◌+◌, min}
use native.Mathlib.Nat.{zero-min, min-zero, suc-min-suc}
use lib.ListN.{length, take}
use Rattle.octets.specs.Bytes.{overwrite, zeros}
use Rattle.journal.specs.Entries.{used_bytes}
use Rattle.journal.specs.Sound.{journal_length}
use Rattle.engine.specs.Calls.{Result}
use Rattle.engine.specs.Worked.{answer_of}
use Rattle.lines.specs.Digits.{decoded}
use Rattle.engine.specs.declared.Call.{Call}
use Rattle.cases.specs.Cases.{ran_on, head_and_used, labelled, run_line, case_line}

-- so many elements, or all where there are fewer
take_min : (n : ℕ) (l : List ℕ) → take (min n (length l)) l ≡ take n l
take_min zero l = rw zero-min refl
take_min (suc n) [] = rw min-zero refl
take_min (suc n) (x ∷ l) = rw suc-min-suc (ap (λ (r : List ℕ). x ∷ r) (take_min n l))

-- the line of a run
pub run_line_lem : (label : List ℕ) (r : Result) (number count n : ℕ) (response journal : List ℕ) (k : ℕ) → number ≡ r.answer.number → count ≡ r.answer.count → n ≡ r.answer.length → response ≡ r.response → journal ≡ r.card.journal → k ≡ min (4 + used_bytes journal) (length journal)
    → labelled label number count (take n response) (take k journal) ≡ run_line label r
unfolding run_line head_and_used answer_of
run_line_lem label r number count n response journal k e₁ e₂ e₃ e₄ e₅ held =
    rw (e₁, e₂, e₃, e₄, held, e₅, take_min (4 + used_bytes r.card.journal) r.card.journal)

-- the line of a case
pub case_line_lem : (label : List ℕ) (call : Call) (journal script j s : List ℕ) → j ≡ overwrite (zeros journal_length) 0 (decoded journal) → s ≡ decoded script → run_line label (ran_on call j s) ≡ case_line label call journal script
unfolding case_line
case_line_lem label call journal script j s e f = λ i. run_line label (ran_on call (e i) (f i))

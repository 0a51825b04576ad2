-- A compact script of bytes keeps its card sound, scripts on trial, its session good, 255 waiting bytes, and what a take-back gives. Assumes nothing.
use mathlib.Core.List.{List}
use Prim.Native.Nat.{ℕ, zero, suc, ◌+◌, ◌≤◌}
use native.Mathlib.Omega.{arith}
use lib.Dec.{ltb}
use lib.ListN.{length, length-take}
use Rattle.octets.proofs.Picks.{on_pick, on_test}
use Rattle.octets.specs.Bytes.{byte, AllBytes, part}
use Rattle.card.specs.Row.{Card}
use Rattle.session.specs.Session.{start}
use Rattle.command.specs.declared.Format.TheVariants.{Compact}
use Rattle.command.specs.declared.Reading.{Reading}
use Rattle.command.specs.Instructions.{carries_data}
use Rattle.command.specs.Outcomes.{word_of, goes_on}
use Rattle.step.specs.Steps.{State, started, stepped}
use Rattle.step.proofs.Keeps.{Holds, command_holds}
use Rattle.compact.specs.Compact.{data_behind, broken, whole_at, read_at, place_after, step_read, step_at, run_from, run}
use Rattle.compact.proofs.Readings.{on_reading}

-- what each command keeps, a script keeps
pub on_run : (P : State → Type 0) (script : List ℕ) (domain : ℕ) → ((at : ℕ) (st : State) → P st → P (step_at script domain at st))
    → (n at : ℕ) (st : State) → P st → P (run_from n script domain at st)
unfolding run_from
on_run P script domain keeps zero at st h = h
on_run P script domain keeps (suc n) at st h =
    let next = keeps at st h in
    on_test P (ltb at (length script)) _ st
    (λ y. on_test P (goes_on (word_of (step_at script domain at st).step.outcome)) _ _ (λ g. on_run P script domain keeps n (place_after (read_at script at)) (step_at script domain at st) next) (λ g. next))
    (λ y. h)

-- what holds between its commands
abbrev pub Kept : Card → State → Type 0
Kept before st = Holds before st.step.session st.card

module _ (script : List ℕ) (small : AllBytes script) where
  few : (at : ℕ) → (read_at script at).size ≤ 255
  unfolding whole_at broken data_behind
  few at =
      on_reading (λ (r : Reading). r.size ≤ 255) script at (omega arith)
      (λ inside. on_pick (λ (n : ℕ). n ≤ 255) (carries_data (byte script (at + 1))) (byte script (at + 4)) 0 (λ y. omega (arith, small (at + 4))) (λ n. omega arith))

  pub brief : (at : ℕ) → length (part script (read_at script at).from (read_at script at).size) ≤ 255
  brief at = rw length-take (omega (arith, few at))

  module _ (before : Card) (domain : ℕ) where
    pub step_holds : (at : ℕ) (st : State) → Kept before st → Kept before (step_at script domain at st)
    unfolding step_read stepped
    step_holds at st h = command_holds before st.step.session st.card h Compact domain (read_at script at).command _ (brief at)

  pub run-keeps : (before : Card) (application domain : ℕ) (card : Card) → Holds before (start application) card
      → Holds before (run script application domain card).step.session (run script application domain card).card
  unfolding run started
  run-keeps before application domain card h = on_run (Kept before) script domain (step_holds before domain) (length script) 0 (started application card) h

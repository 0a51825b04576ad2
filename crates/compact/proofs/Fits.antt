-- The data that a compact script of bytes hands out at its end lie in the file memory, or in the waiting bytes, and are no more than P3 00
-- reads. Assumes nothing.
use mathlib.Core.List.{List}
use Prim.Native.Nat.{ℕ, ◌+◌, ◌≤◌, ◌<◌}
use native.Mathlib.Omega.{arith}
use lib.ListN.{length}
use Rattle.octets.specs.Bytes.{AllBytes}
use Rattle.card.specs.Row.{Card}
use Rattle.session.specs.Session.{start}
use Rattle.command.specs.declared.Format.TheVariants.{Compact}
use Rattle.command.specs.declared.Reading.{Reading}
use Rattle.command.specs.Outcomes.{data_count}
use Rattle.command.specs.Promised.{OutcomeFits}
use Rattle.plan.specs.Plans.{most_read}
use Rattle.step.specs.Steps.{State, started, carried_out, stepped}
use Rattle.step.proofs.Keeps.{Holds}
use Rattle.step.proofs.Handed.{outcome_fits, outcome-few}
use Rattle.compact.specs.Compact.{broken, whole_at, read_at, step_read, step_at, run}
use Rattle.compact.proofs.Readings.{on_reading}
use Rattle.compact.proofs.Runs.{on_run, brief, Kept, step_holds}

-- the data of a script's last outcome
pub record Inside (st : State) : Type 0 where
  pub fits : OutcomeFits (length st.card.files) st.step.outcome
  pub few : data_count st.step.outcome ≤ most_read Compact

module _ (script : List ℕ) (small : AllBytes script) where
  p3-byte : (at : ℕ) → (read_at script at).command.p3 < 256
  unfolding whole_at broken
  p3-byte at = on_reading (λ (r : Reading). r.command.p3 < 256) script at (omega arith) (λ inside. small (at + 4))

  module _ (before : Card) (domain : ℕ) where
    abbrev Fits : State → Type 0
    Fits st = Kept before st × Inside st

    step_fits : (at : ℕ) (st : State) → Fits st → Fits (step_at script domain at st)
    unfolding step_read stepped carried_out
    step_fits at st f =
        let h = f.0 in
        let s = st.step.session.standing in
        let c = (read_at script at).command in (
          step_holds script small before domain at st h,
          record {
            fits = outcome_fits s st.card h.sound h.good Compact domain c _ (brief script small at) (p3-byte at) st.step.session.waiting;
            few = outcome-few s st.card h.sound h.good Compact domain c _ (brief script small at) (p3-byte at);
          },
        )

  pub outcome-inside : (before : Card) (application domain : ℕ) (card : Card) → Holds before (start application) card → Inside (run script application domain card)
  unfolding run started OutcomeFits
  outcome-inside before application domain card h =
      (on_run (Fits before domain) script domain (step_fits before domain) (length script) 0 (started application card) (h, record { fits = tt; few = omega arith })).1

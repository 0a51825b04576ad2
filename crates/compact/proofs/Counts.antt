-- "Five-byte headers": a script of n bytes has at most n / 5 + 1 commands, so that the count is a byte. Assumes nothing.
use mathlib.Core.Path.{◌≡◌, refl, subst, sym}
use mathlib.Core.Bool.{Bool, true, false}
use mathlib.Core.List.{List}
use Prim.Native.Nat.{ℕ, zero, suc, ◌+◌, ◌*◌, ◌≤◌, ◌<◌}
use native.Mathlib.Omega.{arith}
use lib.Dec.{leb, ltb}
use lib.ListN.{length}
use borrow.Author.Tests.{leb-true, leb-false, ltb-true}
use Rattle.octets.proofs.Picks.{on_test}
use Rattle.card.specs.Row.{Card}
use Rattle.command.specs.declared.Reading.{Reading}
use Rattle.command.specs.Outcomes.{word_of, goes_on}
use Rattle.step.specs.Steps.{State, started, stepped}
use Rattle.step.specs.Limits.{longest_script}
use Rattle.compact.specs.Compact.{header_size, broken, whole_at, read_at, place_after, step_read, step_at, run_from, run}
use Rattle.compact.proofs.Readings.{on_reading}
use Rattle.compact.proofs.Going.{nothing_left}

module _ (script : List ℕ) (domain : ℕ) where
  -- the place after a command is inside the script, and at its end where the command takes fewer than five bytes
  pub record Behind (at : ℕ) (r : Reading) : Type 0 where
    pub inside : place_after r ≤ length script
    pub last : place_after r < at + header_size → length script ≤ place_after r

  at_end : (at : ℕ) → Behind at (broken script)
  unfolding broken place_after
  at_end at = record { inside = omega arith; last = λ h. omega arith }

  behind : (at : ℕ) → Behind at (read_at script at)
  unfolding whole_at place_after
  behind at = on_reading (Behind at) script at (at_end at) (λ inside. record { inside = inside; last = λ h. absurd (omega arith) })

  abbrev Few : State → Type 0
  Few st = 5 * st.step.count ≤ length script + 5

  -- after one command more, where it holds for what is left
  next-few : (n at : ℕ) (next : State) → 5 * next.step.count ≤ at + 5 → at < length script
      → ((k : ℕ) (st : State) → k ≤ length script → 5 * st.step.count ≤ k → Few (run_from n script domain k st))
      → (b : Bool) → leb (at + 5) (place_after (read_at script at)) ≡ b → Few (run_from n script domain (place_after (read_at script at)) next)
  next-few n at next few before rest true e = rest _ next (behind at).inside (omega (arith, leb-true (at + 5) (place_after (read_at script at)) e))
  next-few n at next few before rest false e =
      subst Few (sym (nothing_left script domain _ next n ((behind at).last (leb-false (at + 5) (place_after (read_at script at)) e)))) (omega arith)

  run-few : (n at : ℕ) (st : State) → at ≤ length script → 5 * st.step.count ≤ at → Few (run_from n script domain at st)
  unfolding run_from step_read stepped
  run-few zero at st inside few = omega arith
  run-few (suc n) at st inside few =
      on_test Few (ltb at (length script)) _ st
      (λ y.
      on_test Few (goes_on (word_of (step_at script domain at st).step.outcome)) _ _
      (λ g. next-few n at (step_at script domain at st) (omega arith) (ltb-true at (length script) y) (run-few n) _ refl)
      (λ g. omega arith))
      (λ y. omega arith)

pub count-byte : (script : List ℕ) (application domain : ℕ) (card : Card) → length script ≤ longest_script → (run script application domain card).step.count < 256
unfolding run started
count-byte script application domain card short = let few = run-few script domain (length script) 0 (started application card) (omega arith) (omega arith) in omega arith

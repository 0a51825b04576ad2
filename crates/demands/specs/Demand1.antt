-- Demand 1: "No table, memory, journal or script makes the engine fail, read outside what it was lent or run on. Each call checks
-- everything itself. A refused call gives its number from the table, reports no command executed, and changes no byte of table, files,
-- journal or response memory."
--
-- The first two sentences are about the code, and said by the statements of its three contracts. The third is about what the calls
-- give, which those contracts say is what `Calls` gives: which call gets which number, and what a refused call leaves.
use Rattle.std.specs.Prelude.{ℕ, ◌≤◌, ◌<◌, true, false, ◌↔◌, ◌⊎◌, ◌≡◌, length}
use Rattle.card.specs.Row.{Card}
use Rattle.journal.specs.Entries.{scripts_on_trial}
use Rattle.journal.specs.Sound.{mark_fits, sound_card}
use Rattle.engine.specs.Numbers.{numbered, Arguments, format_of, arguments_fit, script_fits, least_response, template_fits}
use Rattle.engine.specs.Calls.{gives}
use Rattle.engine.proofs.run.Statement as run
use Rattle.engine.proofs.take_back.Statement as take_back
use Rattle.engine.proofs.confirm.Statement as confirm
use Rattle.demands.specs.Called.{Call, running, taking_back, confirming, result_of, number, lent_response}

-- n is the number of a run: "Checked in this order", each is given exactly when its condition holds and none before it does
pub record RunNumber (a : Arguments) (c : Card) (n : ℕ) : Type 0 where
  pub one : n ≡ 1 ↔ (sound_card c ≡ false)
  pub two : n ≡ 2 ↔ (sound_card c ≡ true) × (arguments_fit c.table a ≡ false)
  pub three :
      n ≡ 3
      ↔ (sound_card c ≡ true) × (arguments_fit c.table a ≡ true) × (script_fits a.script ≡ false)
  pub four :
      n ≡ 4
      ↔ (sound_card c ≡ true)
      × (arguments_fit c.table a ≡ true)
      × (script_fits a.script ≡ true)
      × (length a.response < least_response (format_of a.format a.script))
  pub five :
      n ≡ 5
      ↔ (sound_card c ≡ true)
      × (arguments_fit c.table a ≡ true)
      × (script_fits a.script ≡ true)
      × (least_response (format_of a.format a.script) ≤ length a.response)
      × (mark_fits c.journal ≡ false)
  pub six :
      n ≡ 6
      ↔ (sound_card c ≡ true)
      × (arguments_fit c.table a ≡ true)
      × (script_fits a.script ≡ true)
      × (least_response (format_of a.format a.script) ≤ length a.response)
      × (mark_fits c.journal ≡ true)
      × (template_fits (format_of a.format a.script) a.script ≡ false)
  pub accepted :
      n ≡ 0
      ↔ (sound_card c ≡ true)
      × (arguments_fit c.table a ≡ true)
      × (script_fits a.script ≡ true)
      × (least_response (format_of a.format a.script) ≤ length a.response)
      × (mark_fits c.journal ≡ true)
      × (template_fits (format_of a.format a.script) a.script ≡ true)
  pub no_other : n ≤ 6

-- n is the number of a take-back
pub record TakeBackNumber (c : Card) (n : ℕ) : Type 0 where
  pub one : n ≡ 1 ↔ (sound_card c ≡ false)
  pub seven : n ≡ 7 ↔ (sound_card c ≡ true) × (scripts_on_trial c.journal ≡ 0)
  pub accepted : n ≡ 0 ↔ (sound_card c ≡ true) × (1 ≤ scripts_on_trial c.journal)
  pub no_other : (n ≡ 0) ⊎ ((n ≡ 1) ⊎ (n ≡ 7))

-- n is the number of a confirmation
pub record ConfirmNumber (c : Card) (n : ℕ) : Type 0 where
  pub one : n ≡ 1 ↔ (sound_card c ≡ false)
  pub accepted : n ≡ 0 ↔ (sound_card c ≡ true)
  pub no_other : n ≤ 1

-- the statement of each call's contract, which is about its code in the toolchain's model of a machine: whatever bytes, and however
-- many, stand in the memories that it is lent, the call does not fail, reads and writes nothing outside them, ends, and gives what
-- `Calls` gives. None has a `requires`: nothing is left to the caller
pub record CodeKeeps : Type 2 where
  pub run : {M : Type 1} → run.statement M
  pub take_back_met : {M : Type 1} → take_back.statement M
  pub confirm : {M : Type 1} → confirm.statement M

pub record Demand1 : Type 2 where
  -- the code meets its contracts
  pub code : CodeKeeps
  -- a call with a number other than 0 has length 0 and count 0, and leaves table, files, journal and response memory as they were
  pub refused :
      (h : Call) (c : Card) → (number (result_of h c) ≡ 0 → ⊥) → result_of h c ≡ gives (numbered (number (result_of h c))) c (lent_response h)
  -- the numbers are exactly those of the table, in its order
  pub runs : (a : Arguments) (c : Card) → RunNumber a c (number (result_of (running a) c))
  pub take_backs : (c : Card) → TakeBackNumber c (number (result_of taking_back c))
  pub confirmations : (c : Card) → ConfirmNumber c (number (result_of confirming c))

-- A compact script between two commands: what is left from here is the whole run.
-- The definition `run_from` counts its commands down, and the code loops. `Going` says that for some count which is enough for the bytes
-- that are left, the run from this place and step is the whole run. One unfolding gives each case of a command: it stops the script
-- (`stop`), or the script goes on behind it (`on`). `moves` joins the two: a script that stops goes on at its own end, where nothing is
-- left to run, so that a loop over it has one way out, `ends`. A command takes at least a byte, so the place is further on (`further`),
-- the count stays enough, and there are never more commands than bytes read. Assumes nothing.
use mathlib.Core.Path.{◌≡◌, refl, sym, ap, subst, ◌∙◌}
use mathlib.Core.Bool.{Bool, true, false}
use mathlib.Core.List.{List}
use Prim.Native.Nat.{ℕ, zero, suc, ◌+◌, ◌≤◌, ◌<◌}
use native.Mathlib.Omega.{arith}
use lib.ListN.{length, length-take}
use borrow.Author.Tests.{lt-ltb, le-ltb}
use Rattle.octets.specs.Choice.{pick}
use Rattle.card.specs.Row.{Card}
use Rattle.journal.specs.Promised.{Starts}
use Rattle.journal.specs.Changes.{taken_back}
use Rattle.command.specs.declared.Format.TheVariants.{Compact}
use Rattle.command.specs.declared.Reading.{Reading}
use Rattle.command.specs.declared.Step.{Step}
use Rattle.command.specs.Outcomes.{word_of, goes_on}
use Rattle.step.specs.Steps.{State, state_of, started, stepped}
use Rattle.step.proofs.Keeps.{Holds, starts_holds, command_holds}
use Rattle.compact.specs.Compact.{read_at, place_after, step_read, step_at, run_from, run}
use Rattle.compact.specs.Promised.{ReadingFits}

-- the place, the number of commands, what holds of session and card, and what is left to run, with a count that is large enough
pub record Going (script : List ℕ) (application domain : ℕ) (card₀ card : Card) (step : Step) (at : ℕ) : Type 0 where
  pub inside : at ≤ length script
  pub counted : step.count ≤ at
  pub holds : Holds (taken_back card₀) step.session card
  pub fuel : ℕ
  pub enough : length script ≤ at + fuel
  pub whole : run_from fuel script domain at (state_of step card) ≡ run script application domain card₀

-- the commands from a place on: none is left, the first stops the script, or it goes on
module _ (script : List ℕ) (domain at : ℕ) (st : State) where
  pub nothing_left : (n : ℕ) → length script ≤ at → run_from n script domain at st ≡ st
  unfolding run_from
  nothing_left zero h = refl
  nothing_left (suc n) h = rw (run_from, le-ltb at (length script) h)

  module _ (more : at < length script) where
    stop : (n : ℕ) → length script ≤ at + n → goes_on (word_of (step_at script domain at st).step.outcome) ≡ false → run_from n script domain at st ≡ step_at script domain at st
    unfolding run_from
    stop zero e g = absurd (omega arith)
    stop (suc n) e g = rw (run_from, lt-ltb at (length script) more, g)

    on : (n : ℕ) → length script ≤ at + n → at < place_after (read_at script at) → goes_on (word_of (step_at script domain at st).step.outcome) ≡ true
        → (m : ℕ) × (length script ≤ place_after (read_at script at) + m) × (run_from m script domain (place_after (read_at script at)) (step_at script domain at st) ≡ run_from n script domain at st)
    unfolding run_from
    on zero e f g = absurd (omega arith)
    on (suc n) e f g = (n, omega arith, rw (run_from, lt-ltb at (length script) more, g))

module _ {script : List ℕ} {application domain : ℕ} {card₀ : Card} where
  pub begins : Starts card₀ application → {step : Step} → step ≡ (started application card₀).step → Going script application domain card₀ card₀ step 0
  unfolding started run
  begins starts is =
      record {
        inside = omega arith;
        counted = rw is (omega arith);
        holds = rw is (starts_holds card₀ application starts);
        fuel = length script;
        enough = omega arith;
        whole = rw is;
      }

  module _ {card : Card} {step : Step} {at : ℕ} (g : Going script application domain card₀ card step at) where
    pub ends : length script ≤ at → state_of step card ≡ run script application domain card₀
    ends h = sym (nothing_left script domain at (state_of step card) g.fuel h) ∙ g.whole

    -- after the command that was read at the place
    module _ {next : Step} {after : Card} {reading : Reading} (more : at < length script)
        (did : state_of next after ≡ step_read script domain reading (state_of step card)) (is : reading ≡ read_at script at) where
      -- the state is the one after the command at the place, and ends as it does
      e : state_of next after ≡ step_at script domain at (state_of step card)
      e = did ∙ ap (λ (k : Reading). step_read script domain k (state_of step card)) is

      same_end : {b : Bool} → goes_on (word_of next.outcome) ≡ b → goes_on (word_of (step_at script domain at (state_of step card)).step.outcome) ≡ b
      same_end h = ap (λ (st : State). goes_on (word_of st.step.outcome)) (sym e) ∙ h

      stops : goes_on (word_of next.outcome) ≡ false → state_of next after ≡ run script application domain card₀
      stops off = e ∙ sym (stop script domain at (state_of step card) more g.fuel g.enough (same_end off)) ∙ g.whole

      module _ (fits : ReadingFits script at reading) where
        -- one command more is counted, and session and card hold as before
        counts : next.count ≡ step.count + 1
        unfolding step_read stepped
        counts = ap (λ (st : State). st.step.count) did

        still : Holds (taken_back card₀) next.session after
        unfolding step_read stepped
        still =
            subst (λ (st : State). Holds (taken_back card₀) st.step.session st.card) (sym did)
            (command_holds (taken_back card₀) step.session card g.holds Compact domain reading.command _ (rw length-take (omega (arith, fits.bytes.brief))))

        goes : goes_on (word_of next.outcome) ≡ true → Going script application domain card₀ after next (place_after reading)
        goes going =
            let there = rw is at fits in
            let k = on script domain at (state_of step card) more g.fuel g.enough there.further (same_end going) in
            record {
              inside = fits.inside;
              counted = let c = g.counted in omega (arith, counts, fits.further);
              holds = still;
              fuel = k.0;
              enough = subst (λ (r : Reading). length script ≤ place_after r + k.0) (sym is) k.1;
              whole =
                  ap (λ (r : Reading). run_from k.0 script domain (place_after r) (state_of next after)) is
                  ∙ ap (λ (st : State). run_from k.0 script domain (place_after (read_at script at)) st) e
                  ∙ k.2
                  ∙ g.whole;
            }

        -- whether it goes on or stops, the script goes on from the place that follows: behind the command, or at the script's end
        follows : (b : Bool) → goes_on (word_of next.outcome) ≡ b → Going script application domain card₀ after next (pick b (place_after reading) (length script))
        unfolding pick run_from
        follows true going = goes going
        follows false off =
            record {
              inside = omega arith;
              counted = let c = g.counted in omega (arith, counts, more);
              holds = still;
              fuel = 0;
              enough = omega arith;
              whole = stops off;
            }

        pub moves : Going script application domain card₀ after next (pick (goes_on (word_of next.outcome)) (place_after reading) (length script))
        moves = follows (goes_on (word_of next.outcome)) refl

        -- and that place is further on
        later : (b : Bool) → at < pick b (place_after reading) (length script)
        unfolding pick
        later true = fits.further
        later false = more

        pub further : at < pick (goes_on (word_of next.outcome)) (place_after reading) (length script)
        further = later (goes_on (word_of next.outcome))

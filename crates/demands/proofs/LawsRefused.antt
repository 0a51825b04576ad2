-- The numbers of the three calls, and what comes of them: a refused call gives its number alone and leaves the card, an accepted run is its
-- script, and an accepted take-back leaves the card that `taken_back` gives. Assumes nothing.
use Prim.Native.Nat.{ℕ}
use mathlib.Core.Path.{◌≡◌, refl, sym, ap, ◌∙◌}
use mathlib.Core.List.{List, []}
use mathlib.Core.Logic.{◌↔◌}
use lib.Dec.{eqb}
use borrow.Author.Tests.{eqb-true}
use Rattle.octets.proofs.Picks.{on_test}
use Rattle.card.specs.Row.{Card}
use Rattle.journal.specs.Changes.{taken_back, with_mark}
use Rattle.command.specs.declared.Format.{Format}
use Rattle.command.specs.declared.Format.TheVariants.{Compact, Expanded}
use Rattle.engine.specs.Numbers.{numbered, Arguments, format_of, first_given, run_refusals, take_back_refusals, confirm_refusals}
use Rattle.engine.specs.Calls.{Result, gives, accepted, unless_refused, run_script, run, take_back, confirm}
use Rattle.engine.proofs.Answers.{given_nothing, given-done}
use Rattle.engine.proofs.RunNumbers.{RunMet, is_met, meets}
use Rattle.demands.specs.Called.{Call, running, taking_back, confirming, result_of, number, lent_response}

-- a call that is done where no number is given
module _ (n : ℕ) (c : Card) (response : List ℕ) (r : Result) (done : number r ≡ 0) where
  given-number : number (unless_refused n c response r) ≡ n
  unfolding unless_refused
  given-number = on_test (λ (s : Result). number s ≡ n) (eqb n 0) _ _ (λ e. done ∙ sym (eqb-true n 0 e)) (λ _. refl)

  given_alone : (number (unless_refused n c response r) ≡ 0 → ⊥) → unless_refused n c response r ≡ gives (numbered (number (unless_refused n c response r))) c response
  given_alone z = given_nothing n c response r (λ e. z (given-number ∙ e)) ∙ ap (λ (k : ℕ). gives (numbered k) c response) (sym given-number)

script-done : (f : Format) (a : Arguments) (c : Card) → number (run_script f a c) ≡ 0
unfolding run_script accepted
script-done Compact a c = refl
script-done Expanded a c = refl

-- the numbers of the three calls
pub run-number : (a : Arguments) (c : Card) → number (run a c) ≡ first_given (run_refusals c a)
unfolding run
run-number a c = given-number _ c a.response _ (script-done (format_of a.format a.script) a _)

pub back_number : (c : Card) → number (take_back c) ≡ first_given (take_back_refusals c)
unfolding take_back
back_number c = given-number _ c [] _ refl

pub confirm-number : (c : Card) → number (confirm c) ≡ first_given (confirm_refusals c)
unfolding confirm
confirm-number c = given-number _ c [] _ refl

-- a run has a number exactly where it meets it
pub run_met : (a : Arguments) (c : Card) (n : ℕ) → number (result_of (running a) c) ≡ n ↔ RunMet c a n
unfolding result_of
run_met a c n = (λ e. is_met c a (sym (run-number a c) ∙ e), λ h. run-number a c ∙ sym (meets c a n h))

-- an accepted run is its script, on the card with its mark
pub run-done : (a : Arguments) (c : Card) → number (result_of (running a) c) ≡ 0 → result_of (running a) c ≡ run_script (format_of a.format a.script) a (with_mark c)
unfolding result_of run
run-done a c ok = given-done _ c a.response _ (sym (run-number a c) ∙ ok)

-- a refused call gives its number and nothing else
pub refused : (h : Call) (c : Card) → (number (result_of h c) ≡ 0 → ⊥) → result_of h c ≡ gives (numbered (number (result_of h c))) c (lent_response h)
unfolding result_of run take_back confirm lent_response
refused (running a) c z = given_alone _ c a.response _ (script-done (format_of a.format a.script) a _) z
refused taking_back c z = given_alone _ c [] _ refl z
refused confirming c z = given_alone _ c [] _ refl z

-- and leaves the card
pub unchanged : (h : Call) (c : Card) → (number (result_of h c) ≡ 0 → ⊥) → (result_of h c).card ≡ c
unchanged h c z = ap (λ (r : Result). r.card) (refused h c z)

-- an accepted take-back leaves the card that `taken_back` gives
pub back_card : (c : Card) → number (result_of taking_back c) ≡ 0 → (result_of taking_back c).card ≡ taken_back c
unfolding result_of take_back
back_card c ok = ap (λ (r : Result). r.card) (given-done _ c [] _ (sym (back_number c) ∙ ok))

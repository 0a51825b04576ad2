-- Demand 1: the code meets its contracts, what a refused call leaves, and the numbers of the three calls, of which 5 is for runs.
-- The code's contracts are proved in `engine`. A number is the first of a list whose condition holds: where one is given, the call is its
-- refusal by definition (`unless_refused`), and which one it is follows from the laws of that list (`RunNumbers` of `engine`), test by test.
-- Assumes nothing.
use mathlib.Core.Path.{◌≡◌, refl, sym, subst, ◌∙◌}
use mathlib.Core.Bool.{Bool, true, false, not, false≢true}
use mathlib.Core.Logic.{◌↔◌, inl, inr, ⊎_elim}
use native.Mathlib.Omega.{arith}
use lib.Dec.{eqb}
use borrow.Author.Tests.{eqb-true, eqb-false}
use Rattle.octets.specs.Choice.{pick}
use Rattle.card.specs.Row.{Card}
use Rattle.journal.specs.Entries.{scripts_on_trial}
use Rattle.journal.specs.Sound.{sound_card}
use Rattle.engine.specs.Numbers.{Arguments, first_given, not_sound, take_back_refusals, confirm_refusals}
use Rattle.demands.specs.Called.{running, taking_back, confirming, result_of, number}
use Rattle.demands.specs.Demand1.{RunNumber, TakeBackNumber, ConfirmNumber, CodeKeeps, Demand1}
use Rattle.engine.proofs.RunNumbers.{six-most}
use Rattle.engine.proofs.run.Met as run
use Rattle.engine.proofs.take_back.Met as take_back
use Rattle.engine.proofs.confirm.Met as confirm
use Rattle.demands.proofs.LawsRefused.{run-number, back_number, confirm-number, run_met, refused}

-- the numbers of a run
run_numbers : (a : Arguments) (c : Card) → RunNumber a c (number (result_of (running a) c))
unfolding result_of
run_numbers a c =
    record {
      one = run_met a c 1;
      two = run_met a c 2;
      three = run_met a c 3;
      four = run_met a c 4;
      five = run_met a c 5;
      six = run_met a c 6;
      accepted = run_met a c 0;
      no_other = omega (arith, run-number a c, six-most c a);
    }

-- two statements of which each holds, or none
both : {A B : Type 0} → A → B → A ↔ B
both a b = (λ _. b, λ _. a)

neither : {A B : Type 0} → (A → ⊥) → (B → ⊥) → A ↔ B
neither a b = (λ h. absurd (a h), λ h. absurd (b h))

not_both : (b : Bool) → b ≡ true → b ≡ false → ⊥
not_both b y n = false≢true (sym n ∙ y)

-- the numbers of a take-back and of a confirmation, by what they test
module _ (c : Card) where
  back_tests : (sound none : Bool) → sound_card c ≡ sound → eqb (scripts_on_trial c.journal) 0 ≡ none → TakeBackNumber c (pick (not sound) 1 (pick none 7 0))
  unfolding pick
  back_tests false none e z =
      record {
        one = both refl e;
        seven = neither (λ h. omega arith) (λ h. not_both (sound_card c) h.0 e);
        accepted = neither (λ h. omega arith) (λ h. not_both (sound_card c) h.0 e);
        no_other = inr (inl refl);
      }
  back_tests true true e z =
      record {
        one = neither (λ h. omega arith) (λ h. not_both (sound_card c) e h);
        seven = both refl (e, eqb-true _ _ z);
        accepted = neither (λ h. omega arith) (λ h. omega (arith, eqb-true (scripts_on_trial c.journal) 0 z));
        no_other = inr (inr refl);
      }
  back_tests true false e z =
      record {
        one = neither (λ h. omega arith) (λ h. not_both (sound_card c) e h);
        seven = neither (λ h. omega arith) (λ h. eqb-false _ _ z h.1);
        accepted = both refl (e, omega (arith, eqb-false (scripts_on_trial c.journal) 0 z));
        no_other = inl refl;
      }

  confirm_tests : (sound : Bool) → sound_card c ≡ sound → ConfirmNumber c (pick (not sound) 1 0)
  unfolding pick
  confirm_tests false e =
      record { one = both refl e; accepted = neither (λ h. omega arith) (λ h. not_both (sound_card c) h e); no_other = omega arith }
  confirm_tests true e =
      record { one = neither (λ h. omega arith) (λ h. not_both (sound_card c) e h); accepted = both refl e; no_other = omega arith }

  pub back_numbers : TakeBackNumber c (number (result_of taking_back c))
  unfolding result_of take_back_refusals not_sound first_given
  back_numbers = subst (TakeBackNumber c) (sym (back_number c)) (back_tests (sound_card c) (eqb (scripts_on_trial c.journal) 0) refl refl)

  confirm_numbers : ConfirmNumber c (number (result_of confirming c))
  unfolding result_of confirm_refusals not_sound first_given
  confirm_numbers = subst (ConfirmNumber c) (sym (confirm-number c)) (confirm_tests (sound_card c) refl)

  -- 5 is for runs
  pub back_not-five : number (result_of taking_back c) ≡ 5 → ⊥
  back_not-five five = ⊎_elim (λ e. omega arith) (λ e. ⊎_elim (λ e. omega arith) (λ e. omega arith) e) back_numbers.no_other

  pub confirm-not-five : number (result_of confirming c) ≡ 5 → ⊥
  confirm-not-five five = omega (arith, confirm_numbers.no_other)

-- the code meets its contracts
code : CodeKeeps
code = record { run = run.met; take_back_met = take_back.met; confirm = confirm.met }

pub demand1 : Demand1
demand1 =
    record {
      code = code;
      refused = refused;
      runs = run_numbers;
      take_backs = back_numbers;
      confirmations = confirm_numbers;
    }

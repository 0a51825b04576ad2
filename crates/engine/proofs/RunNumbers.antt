-- The numbers of a run: each is given exactly where the tests before it pass and its own does not, and 0 where all pass. Assumes nothing.
use mathlib.Core.Path.{◌≡◌, refl, subst}
use mathlib.Core.Bool.{Bool, true, false, not}
use Prim.Native.Nat.{ℕ, zero, suc, ◌≤◌, ◌<◌}
use native.Mathlib.Omega.{arith}
use lib.Dec.{ltb}
use lib.ListN.{length}
use borrow.Author.Tests.{ltb-true, ltb-false, lt-ltb, le-ltb}
use Rattle.octets.specs.Choice.{pick}
use Rattle.octets.proofs.Picks.{on_pick}
use Rattle.card.specs.Row.{Card}
use Rattle.journal.specs.Sound.{mark_fits, sound_card}
use Rattle.engine.specs.Numbers.{Arguments, format_of, arguments_fit, script_fits, least_response, template_fits, first_given, not_sound, run_refusals}

-- the first of a run's numbers, by what they test
abbrev first_of : Bool → Bool → Bool → Bool → Bool → Bool → ℕ
first_of s a f r m t = pick (not s) 1 (pick (not a) 2 (pick (not f) 3 (pick r 4 (pick (not m) 5 (pick (not t) 6 0)))))

-- over plain tests, the length of the response memory and the least that it may have
module _ (s a f : Bool) (long least : ℕ) (m t : Bool) where
  -- what a number stands for
  abbrev pub Met : ℕ → Type 0
  Met zero = (s ≡ true) × (a ≡ true) × (f ≡ true) × (least ≤ long) × (m ≡ true) × (t ≡ true)
  Met (suc zero) = s ≡ false
  Met (suc (suc zero)) = (s ≡ true) × (a ≡ false)
  Met (suc (suc (suc zero))) = (s ≡ true) × (a ≡ true) × (f ≡ false)
  Met (suc (suc (suc (suc zero)))) = (s ≡ true) × (a ≡ true) × (f ≡ true) × (long < least)
  Met (suc (suc (suc (suc (suc zero))))) = (s ≡ true) × (a ≡ true) × (f ≡ true) × (least ≤ long) × (m ≡ false)
  Met (suc (suc (suc (suc (suc (suc zero)))))) = (s ≡ true) × (a ≡ true) × (f ≡ true) × (least ≤ long) × (m ≡ true) × (t ≡ false)
  Met (suc (suc (suc (suc (suc (suc (suc n))))))) = ⊥

  -- where it holds, the number is given
  first : (n : ℕ) → Met n → n ≡ first_of s a f (ltb long least) m t
  unfolding pick
  first zero h = rw (h.0, h.1, h.2, le-ltb long least h.3, h.4, h.5)
  first (suc zero) h = rw h
  first (suc (suc zero)) h = rw (h.0, h.1)
  first (suc (suc (suc zero))) h = rw (h.0, h.1, h.2)
  first (suc (suc (suc (suc zero)))) h = rw (h.0, h.1, h.2, lt-ltb long least h.3)
  first (suc (suc (suc (suc (suc zero))))) h = rw (h.0, h.1, h.2, le-ltb long least h.3, h.4)
  first (suc (suc (suc (suc (suc (suc zero)))))) h = rw (h.0, h.1, h.2, le-ltb long least h.3, h.4, h.5)
  first (suc (suc (suc (suc (suc (suc (suc n))))))) h = absurd h

-- and what the given number stands for holds
met : (s a f r m t : Bool) (long least : ℕ) → ltb long least ≡ r → Met s a f long least m t (first_of s a f r m t)
unfolding pick
met false a f r m t long least e = refl
met true false f r m t long least e = (refl, refl)
met true true false r m t long least e = (refl, refl, refl)
met true true true true m t long least e = (refl, refl, refl, ltb-true long least e)
met true true true false false t long least e = (refl, refl, refl, ltb-false long least e, refl)
met true true true false true false long least e = (refl, refl, refl, ltb-false long least e, refl, refl)
met true true true false true true long least e = (refl, refl, refl, ltb-false long least e, refl, refl)

-- the same of a run's own tests
module _ (c : Card) (a : Arguments) where
  abbrev pub RunMet : ℕ → Type 0
  RunMet =
      Met (sound_card c) (arguments_fit c.table a) (script_fits a.script) (length a.response) (least_response (format_of a.format a.script)) (mark_fits c.journal)
      (template_fits (format_of a.format a.script) a.script)

  pub meets : (n : ℕ) → RunMet n → n ≡ first_given (run_refusals c a)
  unfolding run_refusals not_sound first_given
  meets n h = first _ _ _ _ _ _ _ n h

  pub is_met : {n : ℕ} → first_given (run_refusals c a) ≡ n → RunMet n
  unfolding run_refusals not_sound first_given
  is_met e =
      subst RunMet e
      (met (sound_card c) (arguments_fit c.table a) (script_fits a.script) _ (mark_fits c.journal) (template_fits (format_of a.format a.script) a.script) (length a.response) (least_response (format_of a.format a.script)) refl)

  -- there is no other
  pub six-most : first_given (run_refusals c a) ≤ 6
  unfolding run_refusals not_sound first_given
  six-most =
      let P : ℕ → Type 0 = λ n. n ≤ 6 in
      on_pick P _ _ _ (λ _. omega arith) (λ _. on_pick P _ _ _ (λ _. omega arith) (λ _. on_pick P _ _ _ (λ _. omega arith) (λ _. on_pick P _ _ _ (λ _. omega arith) (λ _. on_pick P _ _ _ (λ _. omega arith) (λ _. on_pick P _ _ _ (λ _. omega arith) (λ _. omega arith))))))

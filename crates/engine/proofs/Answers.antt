-- What a call gives where a number is given and where none is, what the two calls without a script give, case by case, and what a number alone answers. Assumes nothing.
use Prim.Native.Nat.{ℕ, ◌<◌}
use mathlib.Core.Path.{◌≡◌}
use mathlib.Core.Bool.{true, false}
use mathlib.Core.List.{List, []}
use native.Mathlib.Omega.{arith}
use borrow.Author.Tests.{eq-eqb, ne_eqb}
use Rattle.octets.specs.Choice.{pick}
use Rattle.card.specs.Row.{Card}
use Rattle.journal.specs.Entries.{scripts_on_trial}
use Rattle.journal.specs.Sound.{sound_card}
use Rattle.journal.specs.Changes.{taken_back, confirmed}
use Rattle.engine.specs.Numbers.{numbered, first_given, not_sound, take_back_refusals, confirm_refusals}
use Rattle.engine.specs.Calls.{Result, gives, unless_refused, take_back, confirm}
use Rattle.engine.specs.Promised.{AnswerFits}

-- a call gives its number alone where one is given, and else what it does
module _ (n : ℕ) (c : Card) (response : List ℕ) (r : Result) where
  pub given_nothing : (n ≡ 0 → ⊥) → unless_refused n c response r ≡ gives (numbered n) c response
  unfolding unless_refused
  given_nothing z = rw (ne_eqb n 0 z, unless_refused)

  pub given-done : n ≡ 0 → unless_refused n c response r ≡ r
  unfolding unless_refused
  given-done z = rw (eq-eqb n 0 z, unless_refused)

-- the calls without a script
module _ (c : Card) where
  pub back_unsound : sound_card c ≡ false → take_back c ≡ gives (numbered 1) c []
  unfolding take_back unless_refused first_given take_back_refusals not_sound pick
  back_unsound bad = rw bad

  pub back_none : sound_card c ≡ true → scripts_on_trial c.journal ≡ 0 → take_back c ≡ gives (numbered 7) c []
  unfolding take_back unless_refused first_given take_back_refusals not_sound pick
  back_none sound none = rw (sound, eq-eqb (scripts_on_trial c.journal) 0 none)

  pub back_done : sound_card c ≡ true → (scripts_on_trial c.journal ≡ 0 → ⊥) → take_back c ≡ gives (numbered 0) (taken_back c) []
  unfolding take_back unless_refused first_given take_back_refusals not_sound pick
  back_done sound some = rw (sound, ne_eqb (scripts_on_trial c.journal) 0 some)

  pub confirm_unsound : sound_card c ≡ false → confirm c ≡ gives (numbered 1) c []
  unfolding confirm unless_refused first_given confirm_refusals not_sound pick
  confirm_unsound bad = rw bad

  pub confirm-done : sound_card c ≡ true → confirm c ≡ gives (numbered 0) (confirmed c) []
  unfolding confirm unless_refused first_given confirm_refusals not_sound pick
  confirm-done sound = rw sound

-- a number alone is small
pub number-fits : (n : ℕ) → n < 256 → AnswerFits (numbered n)
number-fits n h = (h, omega arith, omega arith)

-- Choices by a test that is known, tests joined by and and or, and a test of every number below a bound.
-- Each law splits on the value of a test. Those of choices are stated from the choice that is wanted back to the test that decides
-- it, so that the proof search can use them (`picks`, `choices`). A search through all numbers below n tells the test of all of them
-- (`all_told`). Assumes nothing.
use mathlib.Core.Path.{◌≡◌, refl, sym, ap, ◌∙◌}
use mathlib.Core.Bool.{Bool, true, false, not, ◌&&◌, ◌||◌, false≢true}
use mathlib.Core.Logic.{◌⊎◌, inl, inr, ⊎_elim}
use Prim.Native.Nat.{ℕ, zero, suc, ◌≤◌, ◌<◌}
use native.Mathlib.Nat.{eq-or-lt_of_le, le_of_suc-le-suc, not-suc-le-zero}
use native.Mathlib.Omega.{arith}
use lib.Dec.{ltb, leb, eqb}
use borrow.Author.Tests.{lt-ltb, le-ltb, le-leb, lt-leb, eq-eqb, ne_eqb, not-true, not-false}
use Rattle.octets.specs.Choice.{pick, all_below}

module _ {A : Type 0} where
  pub pick_true : (b : Bool) (x y : A) → b ≡ true → pick b x y ≡ x
  unfolding pick
  pick_true b x y e = rw e

  pub pick-false : (b : Bool) (x y : A) → b ≡ false → pick b x y ≡ y
  unfolding pick
  pick-false b x y e = rw e

  pub yes : (b : Bool) {r x : A} (y : A) → b ≡ true → r ≡ x → r ≡ pick b x y
  yes b {x = x} y h e = e ∙ sym (pick_true b x y h)

  pub no : (b : Bool) {r : A} (x : A) {y : A} → b ≡ false → r ≡ y → r ≡ pick b x y
  no b x {y} h e = e ∙ sym (pick-false b x y h)

  pub lt_yes : (a b : ℕ) {r x : A} (y : A) → a < b → r ≡ x → r ≡ pick (ltb a b) x y
  lt_yes a b y h = yes (ltb a b) y (lt-ltb a b h)

  pub lt_no : (a b : ℕ) {r : A} (x : A) {y : A} → b ≤ a → r ≡ y → r ≡ pick (ltb a b) x y
  lt_no a b x h = no (ltb a b) x (le-ltb a b h)

  pub le_yes : (a b : ℕ) {r x : A} (y : A) → a ≤ b → r ≡ x → r ≡ pick (leb a b) x y
  le_yes a b y h = yes (leb a b) y (le-leb a b h)

  pub le_no : (a b : ℕ) {r : A} (x : A) {y : A} → b < a → r ≡ y → r ≡ pick (leb a b) x y
  le_no a b x h = no (leb a b) x (lt-leb a b h)

  pub eq_yes : (a b : ℕ) {r x : A} (y : A) → a ≡ b → r ≡ x → r ≡ pick (eqb a b) x y
  eq_yes a b y h = yes (eqb a b) y (eq-eqb a b h)

  pub eq_no : (a b : ℕ) {r : A} (x : A) {y : A} → (a ≡ b → ⊥) → r ≡ y → r ≡ pick (eqb a b) x y
  eq_no a b x h = no (eqb a b) x (ne_eqb a b h)

  pub eq_other : (a b k : ℕ) {r : A} (x : A) {y : A} → a ≡ k → eqb k b ≡ false → r ≡ y → r ≡ pick (eqb a b) x y
  eq_other a b k x h f = no (eqb a b) x (rw h f)

pub ruleset picks = (lt_yes, lt_no, le_yes, le_no, eq_yes, eq_no, eq_other)

-- what a call said of a test, and what came of it
pub told : {v b t : Bool} → v ≡ b → v ≡ t → b ≡ t
told e f = sym e ∙ f

pub ruleset choices = (picks, yes, no, told)

-- what holds of both ways of a choice holds of it
pub on_pick : {A : Type 0} (P : A → Type 0) (b : Bool) (x y : A) → (b ≡ true → P x) → (b ≡ false → P y) → P (pick b x y)
unfolding pick
on_pick P true x y h g = h refl
on_pick P false x y h g = g refl

-- the same of a choice that is written out
pub on_test : {A : Type 0} (P : A → Type 0) (b : Bool) (x y : A) → (b ≡ true → P x) → (b ≡ false → P y) → P (elim b [ true ↦ x | false ↦ y ])
on_test P true x y h g = h refl
on_test P false x y h g = g refl

-- a test holds or it does not
pub either : (b : Bool) → (b ≡ true) ⊎ (b ≡ false)
either true = inl refl
either false = inr refl

pub refuted : (b : Bool) → (b ≡ true → ⊥) → b ≡ false
refuted true h = absurd (h refl)
refuted false h = refl

-- what a function's result says of the test that it is, where the code asked for `!result`
module _ {b t : Bool} (is : b ≡ t) where
  pub told-false : not b ≡ true → t ≡ false
  told-false h = sym is ∙ not-true b h

  pub told-true : not b ≡ false → t ≡ true
  told-true h = sym is ∙ not-false b h

-- tests joined by and, and by or
pub and_left : (a b : Bool) → (a && b) ≡ true → a ≡ true
and_left true b e = refl
and_left false b e = e

pub and_right : (a b : Bool) → (a && b) ≡ true → b ≡ true
and_right true b e = e
and_right false b e = absurd (false≢true e)

pub and_both : (a b : Bool) → a ≡ true → b ≡ true → (a && b) ≡ true
and_both a b e f = rw e f

pub or_either : (a b : Bool) → (a || b) ≡ true → (a ≡ true) ⊎ (b ≡ true)
or_either true b e = inl refl
or_either false b e = inr e

pub or_none : (a b : Bool) → (a || b) ≡ false → b ≡ false
or_none true b e = absurd (false≢true (sym e))
or_none false b e = e

-- a test of every number below a bound: what it says of each, and what proves it
pub all_at : (n k : ℕ) (t : ℕ → Bool) → all_below n t ≡ true → k < n → t k ≡ true
unfolding all_below
all_at zero k t h l = absurd (not-suc-le-zero l)
all_at (suc n) k t h l =
    ⊎_elim
    (λ e. ap t e ∙ and_right (all_below n t) (t n) h)
    (λ b. all_at n k t (and_left (all_below n t) (t n) h) b)
    (eq-or-lt_of_le (le_of_suc-le-suc l))

pub all_intro : (n : ℕ) (t : ℕ → Bool) → ((k : ℕ) → k < n → t k ≡ true) → all_below n t ≡ true
unfolding all_below
all_intro zero t h = refl
all_intro (suc n) t h = and_both (all_below n t) (t n) (all_intro n t (λ k l. h k (omega arith))) (h n (omega arith))

-- the answer of a search through all numbers below the bound: that it holds says it of each, that it does not says that one fails
pub all_told : (n : ℕ) (t : ℕ → Bool) (each : Bool) → (each ≡ true → (k : ℕ) → k < n → t k ≡ true) → (each ≡ false → ((k : ℕ) → k < n → t k ≡ true) → ⊥) → each ≡ all_below n t
all_told n t true holds fails = sym (all_intro n t (holds refl))
all_told n t false holds fails = sym (refuted (all_below n t) (λ e. fails refl (λ k l. all_at n k t e l)))

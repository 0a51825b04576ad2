-- What the code tests for the number 2: an application's root. Assumes nothing.
use mathlib.Core.Path.{◌≡◌, refl}
use mathlib.Core.Bool.{Bool, true, false, ◌&&◌, ◌||◌}
use mathlib.Core.List.{List}
use Prim.Native.Nat.{ℕ}
use native.Mathlib.Omega.{arith}
use lib.Dec.{ltb, eqb}
use borrow.Author.Tests.{eqb-true, eqb-false, ltb-true, lt-ltb, ne_eqb}
use Rattle.card.specs.Row.{entries, row_of}
use Rattle.card.specs.Sound.{sound_table}
use Rattle.card.specs.Tree.{is_root}
use Rattle.card.proofs.Promises.{some-entries, first_kind, other_kind}
use Rattle.engine.specs.Numbers.{Arguments, format_known, application_fits, arguments_fit}

-- in a sound table, 0 and the ADFs are the roots
module _ (t files : List ℕ) (sound : sound_table t files ≡ true) (a : ℕ) where
  application-root : application_fits t a ≡ (ltb a (entries t) && is_root (row_of t a))
  unfolding application_fits
  application-root = by (eqb a 0) (ltb a (entries t)) refl refl
    where
      by : (first inside : Bool) → eqb a 0 ≡ first → ltb a (entries t) ≡ inside → application_fits t a ≡ (ltb a (entries t) && is_root (row_of t a))
      by true inside z i = let k : a ≡ 0 = eqb-true a 0 z in rw (k, lt-ltb 0 (entries t) (some-entries t files sound), first_kind t files sound 0 (some-entries t files sound) refl)
      by false true z i = let k = other_kind t files sound a (ltb-true a (entries t) i) (eqb-false a 0 z) in rw (z, i, ne_eqb (row_of t a).kind 1 (omega arith))
      by false false z i = rw (z, i)

pub arguments_root : (t files : List ℕ) → sound_table t files ≡ true → (a : Arguments)
    → arguments_fit t a ≡ (format_known a.format && ((ltb a.application (entries t) && is_root (row_of t a.application)) && (eqb a.domain 0x00 || eqb a.domain 0xFF)))
unfolding arguments_fit
arguments_root t files sound a = rw (application-root t files sound a.application)

-- Names and numbers in a line: a name that stands at a place lies in the line; a number has a digit; and fields that lie behind a later place
-- lie behind an earlier one. Assumes nothing.
use mathlib.Core.Path.{◌≡◌, ap}
use mathlib.Core.Bool.{true}
use mathlib.Core.List.{List, [], ◌∷◌}
use Prim.Native.Nat.{ℕ, ◌+◌, ◌-◌, ◌≤◌, min}
use native.Mathlib.Omega.{arith}
use lib.ListN.{length, drop, length-drop, length-take}
use Rattle.std.specs.Prelude.{Option, Some, None}
use Rattle.octets.specs.Choice.{pick}
use Rattle.octets.specs.Bytes.{starts_with}
use Rattle.octets.proofs.Same.{starts-true}
use Rattle.lines.specs.Digits.{plain_number}
use Rattle.desk.specs.declared.fields.Fields.{Fields}
use Rattle.desk.specs.Promised.{FieldsFit}

-- a name that stands at a place lies in the line
pub name_inside : (line : List ℕ) (at : ℕ) (name : List ℕ) → starts_with (drop at line) name ≡ true → 1 ≤ length name → at + length name ≤ length line
name_inside line at name e some =
    let l : min (length name) (length line - at) ≡ length name = simp (length-take, length-drop) at (ap length (starts-true (drop at line) name e)) in
    omega arith

-- a number has a digit
pub number_some : (ds : List ℕ) {n : ℕ} → Some n ≡ plain_number ds → 1 ≤ length ds
unfolding plain_number pick
number_some [] {n} e = absurd (let z : ◌≡◌ {A = ℕ} 0 1 = cc in omega arith)
number_some (d ∷ ds) e = omega arith

-- what follows begins behind an earlier place too
pub fields_behind : (first later size : ℕ) (f : Option Fields) → first ≤ later → FieldsFit later size f → FieldsFit first size f
fields_behind first later size (Some f) h fits = record { byte = fits.byte; behind = omega (arith, fits.behind); inside = fits.inside }
fields_behind first later size None h fits = tt

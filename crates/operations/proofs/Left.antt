-- The operations of a list that are left from a number on: the first of them and the others, and none behind the last. Assumes nothing.
use mathlib.Core.Path.{◌≡◌, ap, ◌∙◌}
use mathlib.Core.Bool.{true, ◌&&◌}
use mathlib.Core.List.{List, [], ◌∷◌}
use mathlib.Core.Logic.{⊎_elim}
use Prim.Native.Nat.{ℕ, suc, ◌+◌, ◌-◌, ◌%◌, ◌≤◌, ◌<◌}
use native.Mathlib.Nat.{eq-or-lt_of_le, sub-zero}
use native.Mathlib.Omega.{arith}
use lib.Dec.{leb, eqb}
use lib.ListN.{length}
use borrow.Author.Tests.{leb-true, eq-eqb, ne_eqb}
use Rattle.octets.proofs.Picks.{and_left, and_right}
use Rattle.operations.specs.declared.rows.Operation.{Operation}
use Rattle.operations.specs.Rows.{row_size, most_operations, is_list, operations_in, operation_at, operations_from, operations_of}
use Rattle.operations.specs.Carried.{is_none}

-- a list has 1 to 40 operations
module _ (size : ℕ) (list : is_list size ≡ true) where
  some-few : (leb 1 (operations_in size) && leb (operations_in size) most_operations) ≡ true
  unfolding is_list
  some-few = and_right (eqb (size % row_size) 0) _ list

  pub some : 1 ≤ operations_in size
  some = leb-true 1 (operations_in size) (and_left (leb 1 (operations_in size)) _ some-few)

  pub few : operations_in size ≤ most_operations
  few = leb-true (operations_in size) most_operations (and_right (leb 1 (operations_in size)) _ some-few)

-- of n operations those that are left from the number i on
abbrev pub left : List ℕ → ℕ → ℕ → List Operation
left list n i = operations_from (n - i) list i

pub all_left : (list : List ℕ) (n : ℕ) → n ≡ operations_in (length list) → left list n 0 ≡ operations_of list
unfolding operations_of
all_left list n e = ap (λ (k : ℕ). operations_from k list 0) (sub-zero n ∙ e)

module _ (list : List ℕ) (n i : ℕ) where
  pub none_left : n ≤ i → left list n i ≡ []
  unfolding operations_from
  none_left h =
      let e : n - i ≡ 0 = omega arith in
      rw e

  pub one_left : i < n → left list n i ≡ operation_at list i ∷ left list n (i + 1)
  unfolding operations_from
  one_left h =
      let e : n - i ≡ suc (n - (i + 1)) = omega arith in
      rw e

  pub last-left : i < n → is_none (left list n (i + 1)) ≡ eqb (i + 1) n
  unfolding is_none operations_from
  last-left h =
      let more : i + 1 ≤ n = omega arith in
      ⊎_elim
      (λ e.
      let z : n - (i + 1) ≡ 0 = omega arith in
      rw (z, eq-eqb (i + 1) n e))
      (λ l.
      let s : n - (i + 1) ≡ suc (n - (i + 1 + 1)) = omega arith in
      rw (s, ne_eqb (i + 1) n (λ e. omega arith)))
      (eq-or-lt_of_le more)

-- A list that is written operation after operation: what is left to write, where, and that with it all is written. Assumes nothing.
use mathlib.Core.Path.{◌≡◌, refl, sym, ap, ◌∙◌}
use mathlib.Core.List.{List, ◌∷◌}
use Prim.Native.Nat.{ℕ, ◌+◌, ◌≤◌, ◌<◌}
use native.Mathlib.Omega.{arith}
use lib.ListN.{length}
use Rattle.octets.specs.Bytes.{overwrite}
use Rattle.octets.proofs.Writes.{write-none, write_two, write-length}
use Rattle.operations.specs.declared.rows.Operation.{Operation}
use Rattle.operations.specs.Rows.{operations_in, operations_of, operation_at}
use Rattle.operations.specs.Carried.{first_not_carried}
use Rattle.operations.specs.Scripts.{written_as, all_written}
use Rattle.operations.specs.Sizes.{Carried, written_size, all_size}
use Rattle.operations.proofs.Left.{left, all_left, none_left, one_left}
use Rattle.operations.proofs.Carrying.{first-carried, others-carried}
use Rattle.operations.proofs.Scripted.{written-length, all-length}

-- the operations from i on are carried, they have room at the place, and with them written there all are
pub record ToWrite (format : ℕ) (list d m₀ : List ℕ) (at n : ℕ) (m : List ℕ) (place i : ℕ) : Type 0 where
  pub same : length m ≡ length m₀
  pub carried : first_not_carried format (length d) (i + 1) (left list n i) ≡ 0
  pub room : place + all_size format (left list n i) ≤ length m₀
  pub all : overwrite m place (all_written format d (left list n i)) ≡ overwrite m₀ at (all_written format d (operations_of list))

module _ {format : ℕ} {list d m₀ : List ℕ} {at n : ℕ} where
  pub starts : n ≡ operations_in (length list) → first_not_carried format (length d) 1 (operations_of list) ≡ 0
      → at + all_size format (operations_of list) ≤ length m₀ → ToWrite format list d m₀ at n m₀ at 0
  starts e carried room =
      let l = all_left list n e in
      record {
        same = refl;
        carried = rw l carried;
        room = rw l room;
        all = rw l;
      }

  module _ {m : List ℕ} {place i : ℕ} (going : ToWrite format list d m₀ at n m place i) where
    pub ends : n ≤ i → m ≡ overwrite m₀ at (all_written format d (operations_of list))
    unfolding all_written
    ends h = sym (write-none m place) ∙ rw (none_left list n i h) at going.all

    module _ (inside : i < n) {o : Operation} (is : o ≡ operation_at list i) where
      first : left list n i ≡ o ∷ left list n (i + 1)
      first = one_left list n i inside ∙ ap (λ (x : Operation). x ∷ left list n (i + 1)) (sym is)

      pub here-carried : Carried (length d) o
      here-carried = first-carried format (length d) i o (left list n (i + 1)) (rw first at going.carried)

      fits : place + (written_size format o + all_size format (left list n (i + 1))) ≤ length m₀
      unfolding all_size
      fits = rw first at going.room

      pub here-fits : place + written_size format o ≤ length m
      here-fits = omega (arith, fits, going.same)

      pub goes_on_lem : {w : List ℕ} {q : ℕ} → w ≡ overwrite m place (written_as format d o) → q ≡ place + written_size format o
          → ToWrite format list d m₀ at n w q (i + 1)
      unfolding all_written
      goes_on_lem {w} {q} written next =
          let rest = left list n (i + 1) in
          let l = written-length d o here-carried format in
          let others = others-carried format (length d) i o rest (rw first at going.carried) in
          let k = all-length format (i + 1) d rest others in
          let f = fits in
          let s = going.same in
          record {
            same = ap length written ∙ write-length m place (written_as format d o) (omega arith) ∙ s;
            carried = others;
            room = omega arith;
            all = (λ j. overwrite (written j) (next j) (all_written format d rest))
                ∙ rw (← l) (sym (write_two m place (written_as format d o) (all_written format d rest) (omega arith)))
                ∙ rw first at going.all;
          }

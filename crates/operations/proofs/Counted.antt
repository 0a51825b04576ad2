-- How many bytes operations take at least and at most, and that what is written has as many. Assumes nothing.
use mathlib.Core.Path.{◌≡◌, refl, ap}
use mathlib.Core.Bool.{true}
use mathlib.Core.List.{List}
use Prim.Native.Nat.{ℕ, ◌+◌, ◌≤◌, ◌<◌}
use native.Mathlib.Omega.{arith}
use lib.Dec.{eqb}
use lib.ListN.{length}
use Rattle.octets.proofs.Picks.{on_pick}
use Rattle.tlv.proofs.Written.{length_some, length-few}
use Rattle.operations.specs.declared.rows.Operation.{Operation}
use Rattle.operations.specs.Rows.{is_read, is_list, operations_in, operation_at, operations_of}
use Rattle.operations.specs.Scripts.{has_le}
use Rattle.operations.specs.Sizes.{header_size, compact_size, capdu_size, tlv_size, written_size, all_size}
use Rattle.operations.proofs.Left.{left, some, all_left, none_left, one_left}

-- the size of one operation: a header at least, and at most its bytes, its Le, its tag and its length besides
pub record Within (low high n : ℕ) : Type 0 where
  pub least : low ≤ n
  pub most : n ≤ high

module _ (o : Operation) where
  pub compact_within : Within header_size (header_size + o.count) (compact_size o)
  unfolding compact_size
  compact_within =
      on_pick (Within header_size (header_size + o.count)) (is_read o.kind) _ _
      (λ read. record { least = omega arith; most = omega arith })
      (λ other. record { least = omega arith; most = omega arith })

  pub capdu_within : Within header_size (header_size + o.count + 1) (capdu_size o)
  unfolding capdu_size
  capdu_within =
      let c = compact_within in
      on_pick (Within header_size (header_size + o.count + 1)) (has_le o.kind) _ _
      (λ le. record { least = omega arith; most = omega arith })
      (λ none. record { least = omega arith; most = omega arith })

pub tlv_within : (n : ℕ) → Within (2 + n) (4 + n) (tlv_size n)
unfolding tlv_size
tlv_within n =
    let s = length_some n in
    let f = length-few n in
    record { least = omega arith; most = omega arith }

pub written_within : (format : ℕ) (o : Operation) → Within header_size (header_size + o.count + 5) (written_size format o)
unfolding written_size
written_within format o =
    let c = compact_within o in
    let d = capdu_within o in
    let t = tlv_within (capdu_size o) in
    on_pick (Within header_size (header_size + o.count + 5)) (eqb format 0) _ _
    (λ compact. record { least = omega arith; most = omega arith })
    (λ expanded. record { least = omega arith; most = omega arith })

-- the size of all operations, one after the other
module _ (format : ℕ) (list : List ℕ) (n i : ℕ) where
  pub size_ends : n ≤ i → all_size format (left list n i) ≡ 0
  unfolding all_size
  size_ends h = rw (none_left list n i h)

  pub size-goes_on : i < n → {o : Operation} {k : ℕ} → o ≡ operation_at list i → k ≡ written_size format o
      → all_size format (left list n i) ≡ k + all_size format (left list n (i + 1))
  unfolding all_size
  size-goes_on h is sized = rw (one_left list n i h, sized, is)

-- a list has an operation, and that has a header
pub size-some : (format : ℕ) (list : List ℕ) → is_list (length list) ≡ true → header_size ≤ all_size format (operations_of list)
size-some format list h =
    let n = operations_in (length list) in
    let one = some (length list) h in
    let whole = ap (all_size format) (all_left list n refl) in
    let first = size-goes_on format list n 0 (omega arith) refl refl in
    omega (arith, written_within format (operation_at list 0))

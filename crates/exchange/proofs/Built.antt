-- What is known of a build that is not refused: its list has an operation, all its operations are carried, its script is short enough, and
-- what was written is that script. Each refusal has a number that is not 0, so each test of the build has passed. Assumes nothing.
use Prim.Native.Nat.{ℕ, zero, suc, ◌%◌, ◌≤◌}
use mathlib.Core.Path.{◌≡◌, refl}
use mathlib.Core.Bool.{true, false}
use mathlib.Core.List.{List}
use native.Mathlib.Omega.{arith}
use lib.Dec.{ltb, eqb}
use lib.ListN.{length}
use lib.Seq.{take-append_seam}
use borrow.Author.Tests.{leb-true, ltb-false, eqb-true}
use Rattle.octets.specs.Bytes.{overwrite}
use Rattle.octets.proofs.Picks.{on_pick, and_left, and_right}
use Rattle.step.specs.Limits.{longest_script}
use Rattle.operations.specs.declared.rows.Operation.{Operation}
use Rattle.operations.specs.Rows.{row_size, operations_from, operations_in, operations_of, is_list}
use Rattle.operations.specs.Carried.{is_none, first_not_carried}
use Rattle.operations.specs.Scripts.{script_of}
use Rattle.operations.specs.Builds.{Building, placed, built_list, build}
use Rattle.exchange.specs.Understood.{written}
use Rattle.exchange.proofs.Carried.{AllCarried, all-carried}

-- a script that found room
pub record IsPlaced (script : List ℕ) (b : Building) : Type 0 where
  pub short : length script ≤ longest_script
  pub is : written b ≡ script

-- a list that was built
pub record IsBuilt (format : ℕ) («data» : List ℕ) (os : List Operation) (b : Building) : Type 0 where
  pub some : is_none os ≡ false
  pub carried : AllCarried format (length «data») os
  pub script : IsPlaced (script_of format «data» os) b

is-placed : (script : List ℕ) (operations : ℕ) (memory : List ℕ) → (placed script operations memory).answer.refusal ≡ 0 → IsPlaced script (placed script operations memory)
unfolding placed written overwrite
is-placed script operations memory =
    let P : Building → Type 0 = λ b. b.answer.refusal ≡ 0 → IsPlaced script b in
    on_pick P (ltb longest_script (length script)) _ _ (λ _ e. absurd (omega arith))
    (λ short.
    on_pick P (ltb (length memory) (length script)) _ _ (λ _ e. absurd (omega arith))
    (λ _ e. record { short = ltb-false longest_script (length script) short; is = take-append_seam script _ }))

some-from : (list : List ℕ) (n : ℕ) → 1 ≤ n → is_none (operations_from n list 0) ≡ false
unfolding is_none operations_from
some-from list zero h = absurd (omega arith)
some-from list (suc n) h = refl

some_operation : (list : List ℕ) → is_list (length list) ≡ true → is_none (operations_of list) ≡ false
unfolding is_list operations_of
some_operation list e =
    some-from list (operations_in (length list)) (leb-true 1 _ (and_left _ _ (and_right (eqb (length list % row_size) 0) _ e)))

module _ (format : ℕ) («data» memory : List ℕ) (os : List Operation) (some : is_none os ≡ false) (operations : ℕ) where
  list-built : (built_list format os operations «data» memory).answer.refusal ≡ 0 → IsBuilt format «data» os (built_list format os operations «data» memory)
  unfolding built_list
  list-built =
      on_pick (λ (b : Building). b.answer.refusal ≡ 0 → IsBuilt format «data» os b) (eqb (first_not_carried format (length «data») 1 os) 0) _ _
      (λ y e.
      record {
        some = some;
        carried = all-carried format (length «data») 1 os (omega arith) (eqb-true _ 0 y);
        script = is-placed (script_of format «data» os) operations memory e;
      })
      (λ _ e. absurd (omega arith))

pub is-built : (format : ℕ) (list «data» memory : List ℕ) → (build format list «data» memory).answer.refusal ≡ 0
    → IsBuilt format «data» (operations_of list) (build format list «data» memory)
unfolding build
is-built format list «data» memory =
    on_pick (λ (b : Building). b.answer.refusal ≡ 0 → IsBuilt format «data» (operations_of list) b) (is_list (length list)) _ _
    (λ y. list-built format «data» memory (operations_of list) (some_operation list y) (operations_in (length list)))
    (λ _ e. absurd (omega arith))

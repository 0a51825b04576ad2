-- An operation and its command: what the instruction of a carried operation asks for, and that the operation can be told again from its
-- command. Each law goes kind by kind (`by_kind`), where its tests compute. Assumes nothing.
use Prim.Native.Nat.{ℕ, ◌+◌, ◌*◌, ◌/◌, ◌%◌}
use mathlib.Core.Path.{◌≡◌, refl, sym, ap, ◌∙◌}
use mathlib.Core.Bool.{Bool, true, false, not, ◌&&◌, ◌||◌}
use mathlib.Core.List.{List, ◌∷◌}
use native.Mathlib.Omega.{arith}
use lib.Dec.{eqb}
use borrow.Author.Tests.{eqb-true}
use Rattle.octets.specs.Choice.{pick}
use Rattle.octets.proofs.Picks.{and_left, and_right, on_pick}
use Rattle.command.specs.Instructions.{no_data, class_of, case_of}
use Rattle.compact.specs.Compact.{compact_case, data_behind}
use Rattle.operations.specs.declared.rows.Operation.{Operation}
use Rattle.operations.specs.Rows as rows
use Rattle.operations.specs.Rows.{is_read, is_binary}
use Rattle.operations.specs.Carried.{mode_fits, is_none}
use Rattle.operations.specs.Scripts.{instruction_of, from_root, p1_of, p2_of, has_le}
use Rattle.exchange.specs.Understood.{command_of, list_commands, asked, all_asked, kind_of, asked_by, all_asked_by}
use Rattle.exchange.proofs.Carried.{AllCarried, none, more, by_kind}

module _ (o : Operation) (fits : mode_fits o.kind o.mode o.number ≡ true) where
  -- its parameters by its kind
  abbrev p1 : ℕ → ℕ
  p1 k = pick (eqb k rows.select) from_root (pick (is_binary k) (o.number / 256) o.number)

  abbrev p2 : ℕ → ℕ
  p2 k = pick (eqb k rows.select) no_data (pick (is_binary k) (o.number % 256) o.mode)

  -- ---- what its instruction asks for

  pub data_behind_lem : (p3 : ℕ) → data_behind (instruction_of o.kind) p3 ≡ pick (is_read o.kind) 0 p3
  unfolding instruction_of data_behind pick
  data_behind_lem p3 = by_kind (λ (k : ℕ). data_behind (instruction_of k) p3 ≡ pick (is_read k) 0 p3) o fits refl refl refl refl refl refl refl

  -- a read has no Le behind its header
  pub read_no_le : is_read o.kind ≡ true → has_le o.kind ≡ false
  read_no_le =
      by_kind (λ (k : ℕ). is_read k ≡ true → has_le k ≡ false) o fits
      (λ _. refl) (λ _. refl) (λ _. refl) (λ _. refl) (λ _. refl) (λ e. sym e) (λ e. sym e)

  -- its case: 2 for a read, 4 where it has Le, and else 3
  pub case-is : case_of (instruction_of o.kind) (p2_of o) ≡ pick (is_read o.kind) 2 (pick (has_le o.kind) 4 3)
  unfolding instruction_of p2_of case_of pick
  case-is =
      by_kind (λ (k : ℕ). case_of (instruction_of k) (p2 k) ≡ pick (is_read k) 2 (pick (has_le k) 4 3)) o fits refl refl refl refl refl refl refl

  -- none of them is 04 or 44
  pub compact_case_lem : (p3 : ℕ) → compact_case (instruction_of o.kind) (p2_of o) p3 ≡ case_of (instruction_of o.kind) (p2_of o)
  unfolding compact_case pick
  compact_case_lem p3 =
      let other : eqb (case_of (instruction_of o.kind) (p2_of o)) 1 ≡ false =
      ap (λ (n : ℕ). eqb n 1) case-is
      ∙ on_pick (λ (n : ℕ). eqb n 1 ≡ false) (is_read o.kind) _ _ (λ _. refl) (λ _. on_pick (λ (n : ℕ). eqb n 1 ≡ false) (has_le o.kind) _ _ (λ _. refl) (λ _. refl))
      in
      rw other

  -- its class is not the tag of a template
  pub no_template : (eqb (class_of (instruction_of o.kind)) 0xAA || eqb (class_of (instruction_of o.kind)) 0xAE) ≡ false
  unfolding instruction_of class_of pick
  no_template =
      by_kind (λ (k : ℕ). (eqb (class_of (instruction_of k)) 0xAA || eqb (class_of (instruction_of k)) 0xAE) ≡ false) o fits refl refl refl refl refl refl refl

  -- ---- the operation, told again

  kind-told : kind_of (instruction_of o.kind) ≡ o.kind
  unfolding instruction_of kind_of pick
  kind-told = by_kind (λ (k : ℕ). kind_of (instruction_of k) ≡ k) o fits refl refl refl refl refl refl refl

  mode-told : pick (eqb o.kind rows.select) 0 (pick (is_binary o.kind) 0 (p2_of o)) ≡ o.mode
  unfolding p2_of mode_fits pick
  mode-told =
      let zero-mode : (b : Bool) → (eqb o.mode 0 && b) ≡ true → 0 ≡ o.mode = λ b e. sym (eqb-true o.mode 0 (and_left _ _ e)) in
      by_kind (λ (k : ℕ). mode_fits k o.mode o.number ≡ true → pick (eqb k rows.select) 0 (pick (is_binary k) 0 (p2 k)) ≡ o.mode) o fits (zero-mode _) (zero-mode _) (zero-mode _) (λ _. refl) (λ _. refl) (λ _. refl) (λ _. refl) fits

  number-told : pick (eqb o.kind rows.select) 0 (pick (is_binary o.kind) (p1_of o * 256 + p2_of o) (p1_of o)) ≡ o.number
  unfolding p1_of p2_of mode_fits pick
  number-told =
      let offset : o.number / 256 * 256 + o.number % 256 ≡ o.number = omega arith in
      by_kind
      (λ (k : ℕ). mode_fits k o.mode o.number ≡ true → pick (eqb k rows.select) 0 (pick (is_binary k) (p1 k * 256 + p2 k) (p1 k)) ≡ o.number) o fits (λ e. sym (eqb-true o.number 0 (and_right (eqb o.mode 0) _ e))) (λ _. offset) (λ _. offset) (λ _. refl) (λ _. refl) (λ _. refl) (λ _. refl) fits

  told-again : (after : Bool) («data» : List ℕ) → asked_by (command_of after «data» o) ≡ asked «data» o
  unfolding asked_by command_of asked
  told-again after «data» = rw (kind-told, mode-told, number-told)

pub all_told : {size : ℕ} (format : ℕ) («data» : List ℕ) {os : List Operation} → AllCarried format size os → all_asked_by (list_commands format «data» os) ≡ all_asked «data» os
unfolding all_asked_by list_commands all_asked
all_told format «data» none = refl
all_told format «data» (more {o = o} {os = os} c cs) = λ i. told-again o c.mode (eqb format 0 && not (is_none os)) «data» i ∷ all_told format «data» cs i

-- The C-APDU of a carried operation is the operation's command.
-- A C-APDU's case goes by its size, and there are three shapes: a header alone, a header with data, and one with data and Le. Of each the case
-- and the data follow from the lengths (`shape_command`), and a carried operation has the shape of its instruction's case (`shape_of`). Assumes
-- nothing.
use Prim.Native.Nat.{ℕ, ◌+◌, ◌-◌, ◌≤◌}
use mathlib.Core.Path.{◌≡◌, refl, sym, ap}
use mathlib.Core.Bool.{Bool, true, false, false≢true}
use mathlib.Core.List.{List, [], ◌∷◌, ◌++◌, append-nil}
use native.Mathlib.Omega.{arith}
use lib.Dec.{eqb}
use lib.ListN.{length, length-append}
use lib.Seq.{take_all, take_at, get_or_at}
use borrow.Author.Tests.{eq-eqb}
use Rattle.octets.specs.Choice.{pick}
use Rattle.octets.specs.Bytes.{byte, part}
use Rattle.octets.proofs.Picks.{eq_yes, eq_no, yes, and_both, on_pick}
use Rattle.octets.proofs.Writes.{part_length}
use Rattle.command.specs.Instructions.{case_of}
use Rattle.expanded.specs.Capdu.{case_by_size, carried, capdu_command}
use Rattle.demands.specs.Commands.{Read, read_in}
use Rattle.operations.specs.declared.rows.Operation.{Operation}
use Rattle.operations.specs.Rows.{is_read}
use Rattle.operations.specs.Scripts.{instruction_of, p2_of, header_of, bytes_of, has_le, le_of, capdu_of}
use Rattle.exchange.specs.Understood.{command_of, list_commands, list_capdus, capdu_commands}
use Rattle.exchange.proofs.Carried.{IsCarried, AllCarried, none, more, bytes-length}
use Rattle.exchange.proofs.Commanded.{case-is, read_no_le}

-- what stands behind a header whose last byte is `n`: data and Le, with the case that they make
data Shape (n : ℕ) : List ℕ → List ℕ → ℕ → Type 0 where
  outgoing : Shape n [] [] 2
  incoming : {d : List ℕ} → 1 ≤ length d → length d ≡ n → Shape n d [] 3
  both : {d : List ℕ} → 1 ≤ length d → length d ≡ n → Shape n d (0 ∷ []) 4

-- ---- the case of a shape, and its command

module _ (class i p1 p2 n : ℕ) where
  abbrev headed : List ℕ → List ℕ
  headed behind = class ∷ i ∷ p1 ∷ p2 ∷ n ∷ behind

  case-two : case_by_size (headed []) ≡ 2
  unfolding case_by_size pick
  case-two = refl

  case-three : (d : List ℕ) → 1 ≤ length d → length d ≡ n → case_by_size (headed d) ≡ 3
  unfolding case_by_size
  case-three d some e =
      sym
      (eq_no (length (headed d)) 4 _ (λ f. omega arith)
      (eq_no (length (headed d)) 5 _ (λ f. omega arith) (eq_yes (length (headed d)) (5 + n) _ (omega arith) refl)))

  last_byte : (d : List ℕ) → byte (headed (d ++ (0 ∷ []))) (length (headed (d ++ (0 ∷ []))) - 1) ≡ 0
  last_byte d = let l = length-append d (0 ∷ []) in get_or_at (headed d) 0 [] 0 (length (headed (d ++ (0 ∷ []))) - 1) (omega arith)

  case-four : (d : List ℕ) → 1 ≤ length d → length d ≡ n → case_by_size (headed (d ++ (0 ∷ []))) ≡ 4
  unfolding case_by_size
  case-four d some e =
      let l = length-append d (0 ∷ []) in
      let size = length (headed (d ++ (0 ∷ []))) in
      sym
      (eq_no size 4 _ (λ f. omega arith)
      (eq_no size 5 _ (λ f. omega arith)
      (eq_no size (5 + n) _ (λ f. omega arith)
      (yes _ _ (and_both _ _ (eq-eqb size (6 + n) (omega arith)) (ap (λ (b : ℕ). eqb b 0) (last_byte d))) refl))))

  abbrev command : ℕ → List ℕ → Read
  command case d =
      record {
        command = record { whole = true; class = class; instruction = i; p1 = p1; p2 = p2; p3 = n; case = case; after = false };
        «data» = d;
      }

  shape_command : {d le : List ℕ} {case : ℕ} → Shape n d le case → read_in (headed (d ++ le)) (capdu_command (headed (d ++ le))) ≡ command case d
  unfolding read_in capdu_command carried pick
  shape_command outgoing = rw case-two
  shape_command (incoming {d = d} some e) = rw (append-nil d, case-three d some e) (ap (command 3) (take_all n d (omega arith)))
  shape_command (both {d = d} some e) = rw (case-four d some e) (ap (command 4) (take_at d (0 ∷ []) n e))

-- ---- the shape of an operation

-- by whether it is a read and whether it has Le
shape_by : (read le : Bool) (n : ℕ) (d : List ℕ) → (read ≡ true → le ≡ false) → (read ≡ false → 1 ≤ n) → (read ≡ false → length d ≡ n)
    → Shape n (pick read [] d) (pick le (0 ∷ []) []) (pick read 2 (pick le 4 3))
unfolding pick
shape_by true true n d one some e = absurd (false≢true (sym (one refl)))
shape_by true false n d one some e = outgoing
shape_by false true n d one some e = let h = some refl in let l = e refl in both {d = d} (omega arith) l
shape_by false false n d one some e = let h = some refl in let l = e refl in incoming {d = d} (omega arith) l

module _ («data» : List ℕ) (o : Operation) {format : ℕ} (c : IsCarried format (length «data») o) where
  shape_of : Shape o.count (bytes_of «data» o) (le_of o.kind) (case_of (instruction_of o.kind) (p2_of o))
  unfolding bytes_of le_of
  shape_of =
      rw (case-is o c.mode)
      (shape_by (is_read o.kind) (has_le o.kind) o.count (part «data» o.from o.count) (read_no_le o c.mode) c.brings.some
      (λ n. part_length «data» o.from o.count (c.brings.inside n)))

  capdu_command_lem : read_in (capdu_of «data» o) (capdu_command (capdu_of «data» o)) ≡ command_of false «data» o
  unfolding capdu_of header_of command_of
  capdu_command_lem = shape_command _ _ _ _ _ shape_of

pub all-capdus : («data» : List ℕ) {format : ℕ} {os : List Operation} → AllCarried format (length «data») os → capdu_commands (list_capdus «data» os) ≡ list_commands 1 «data» os
unfolding capdu_commands list_capdus list_commands
all-capdus «data» none = refl
all-capdus «data» (more {o = o} c cs) = λ i. capdu_command_lem «data» o c i ∷ all-capdus «data» cs i

-- ---- its length

le_short : (b : Bool) → length {A = ℕ} (pick b (0 ∷ []) []) ≤ 1
unfolding pick
le_short true = omega arith
le_short false = omega arith

pub capdu-sized : («data» : List ℕ) (o : Operation) {format : ℕ} → IsCarried format (length «data») o → (5 ≤ length (capdu_of «data» o)) × (length (capdu_of «data» o) ≤ 261)
unfolding capdu_of header_of le_of
capdu-sized «data» o c =
    let l = length-append (bytes_of «data» o) (le_of o.kind) in
    let le = le_short (has_le o.kind) in
    let few : pick (is_read o.kind) 0 o.count ≤ 255 = on_pick (λ (n : ℕ). n ≤ 255) (is_read o.kind) _ _ (λ _. omega arith) (λ _. c.brings.few) in
    let b = bytes-length «data» o c.brings in
    (omega arith, omega arith)

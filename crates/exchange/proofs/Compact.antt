-- Compact: the commands of a script that was built are the list's.
-- Commands behind a prefix are those without it (`commands_behind`), so a list's script is read from its front: its first command is the
-- first operation's (`read_here`), and what is behind that is the script of the rest. Assumes nothing.
use Prim.Native.Nat.{ℕ, zero, suc, ◌+◌, ◌≤◌, ◌<◌}
use mathlib.Core.Path.{◌≡◌, refl, sym, ap, ◌∙◌}
use mathlib.Core.Bool.{Bool, true, false, not}
use mathlib.Core.List.{List, [], ◌∷◌, ◌++◌}
use native.Mathlib.Nat.{add_assoc, add-zero}
use native.Mathlib.Omega.{arith}
use lib.Dec.{ltb}
use lib.ListN.{length, length-append}
use lib.Seq.{take-append_seam, drop-append-add}
use borrow.Author.Tests.{lt-ltb, le-ltb}
use Rattle.octets.specs.Choice.{pick}
use Rattle.tlv.proofs.Behind.{lt_shift}
use Rattle.command.specs.declared.Reading.{Reading}
use Rattle.command.specs.Instructions.{case_of}
use Rattle.compact.specs.Compact.{compact_case, data_behind, whole_at, read_at, place_after}
use Rattle.compact.proofs.Readings.{whole}
use Rattle.compact.proofs.Behind.{moved, read_behind}
use Rattle.demands.specs.Commands.{Read, read_in, commands_from, commands_of}
use Rattle.operations.specs.declared.rows.Operation.{Operation}
use Rattle.operations.specs.Carried.{is_none}
use Rattle.operations.specs.Scripts.{instruction_of, p1_of, p2_of, header_of, bytes_of, compact_of, written_as, all_written}
use Rattle.exchange.specs.Understood.{command_of, list_commands}
use Rattle.exchange.proofs.Carried.{IsCarried, AllCarried, none, more, bytes-length}
use Rattle.exchange.proofs.Commanded.{data_behind_lem, compact_case_lem}

-- two choices by tests that agree
both_ways : {A : Type 0} (b c : Bool) (x y u v : A) → b ≡ c → x ≡ u → y ≡ v → ◌≡◌ {A = A} (elim b [ true ↦ x | false ↦ y ]) (elim c [ true ↦ u | false ↦ v ])
both_ways b c x y u v e p q = λ i. elim (e i) [ true ↦ p i | false ↦ q i ]

-- ---- commands behind a prefix

module _ (pre s : List ℕ) where
  abbrev k : ℕ
  k = length pre

  moved_in : (r : Reading) → read_in (pre ++ s) (moved k r) ≡ read_in s r
  unfolding read_in moved
  moved_in r = rw (drop-append-add pre s r.from)

  place-moved : (r : Reading) → place_after (moved k r) ≡ k + place_after r
  unfolding place_after moved
  place-moved r = add_assoc k r.from r.size

  first-behind : (at : ℕ) → read_in (pre ++ s) (read_at (pre ++ s) (k + at)) ≡ read_in s (read_at s at)
  first-behind at = ap (read_in (pre ++ s)) (read_behind pre s at) ∙ moved_in (read_at s at)

  place-behind : (at : ℕ) → place_after (read_at (pre ++ s) (k + at)) ≡ k + place_after (read_at s at)
  place-behind at = ap place_after (read_behind pre s at) ∙ place-moved (read_at s at)

  commands_behind : (n at : ℕ) → commands_from n (pre ++ s) (k + at) ≡ commands_from n s at
  unfolding commands_from
  commands_behind zero at = refl
  commands_behind (suc n) at =
      let rest = ap (commands_from n (pre ++ s)) (place-behind at) ∙ commands_behind n (place_after (read_at s at)) in
      both_ways (ltb (k + at) (length (pre ++ s))) (ltb at (length s)) _ _ _ _ (lt_shift k at (length s) refl (length-append pre s)) (λ i. first-behind at i ∷ rest i) refl

-- ---- the first command

module _ (class i p1 p2 n : ℕ) (d rest : List ℕ) (behind : data_behind i n ≡ length d) where
  abbrev script : List ℕ
  script = class ∷ i ∷ p1 ∷ p2 ∷ n ∷ (d ++ rest)

  whole_here : read_at script 0 ≡ whole_at script 0 i (length d)
  whole_here =
      let l = length-append d rest in
      sym (whole script 0 refl refl (sym behind) (omega arith) (omega arith) refl)

  place_here : place_after (read_at script 0) ≡ 5 + length d
  unfolding place_after whole_at
  place_here = ap place_after whole_here

  read_here : {after : Bool} → ltb (5 + length d) (length script) ≡ after → compact_case i p2 n ≡ case_of i p2
      → read_in script (read_at script 0)
      ≡ record {
        command = record { whole = true; class = class; instruction = i; p1 = p1; p2 = p2; p3 = n; case = case_of i p2; after = after };
        «data» = d;
      }
  unfolding read_in whole_at
  read_here e f = ap (read_in script) whole_here ∙ rw (e, f, take-append_seam d rest)

-- a script's first command, and the others
one_more : (n : ℕ) (script : List ℕ) (r : Read) (rs : List Read) → 0 < length script → read_in script (read_at script 0) ≡ r → commands_from n script (place_after (read_at script 0)) ≡ rs
    → commands_from (suc n) script 0 ≡ r ∷ rs
unfolding commands_from
one_more n script r rs some first others = both_ways (ltb 0 (length script)) true _ _ (r ∷ rs) [] (lt-ltb 0 (length script) some) (λ i. first i ∷ others i) refl

-- ---- a list

module _ («data» : List ℕ) where
  abbrev script_of : List Operation → List ℕ
  script_of os = all_written 0 «data» os

  first-written : (o : Operation) (os : List Operation) → script_of (o ∷ os) ≡ compact_of «data» o ++ script_of os
  unfolding all_written written_as pick
  first-written o os = refl

  compact-length : (o : Operation) → length (compact_of «data» o) ≡ 5 + length (bytes_of «data» o)
  unfolding compact_of header_of
  compact-length o = omega arith

  script-length : (o : Operation) (os : List Operation) → length (script_of (o ∷ os)) ≡ 5 + length (bytes_of «data» o) + length (script_of os)
  script-length o os = ap length (first-written o os) ∙ length-append (compact_of «data» o) (script_of os) ∙ ap (λ (n : ℕ). n + length (script_of os)) (compact-length o)

  -- bytes follow a command where its operation is not the last
  after_first : (o : Operation) (os : List Operation) → ltb (5 + length (bytes_of «data» o)) (length (script_of (o ∷ os))) ≡ not (is_none os)
  unfolding is_none all_written
  after_first o [] = le-ltb (5 + length (bytes_of «data» o)) (length (script_of (o ∷ []))) (omega (arith, script-length o []))
  after_first o (next ∷ os) =
      lt-ltb (5 + length (bytes_of «data» o)) (length (script_of (o ∷ next ∷ os))) (omega (arith, script-length o (next ∷ os), script-length next os))

  module _ {o : Operation} (c : IsCarried 0 (length «data») o) (os : List Operation) where
    brought : data_behind (instruction_of o.kind) o.count ≡ length (bytes_of «data» o)
    brought = data_behind_lem o c.mode o.count ∙ sym (bytes-length «data» o c.brings)

    first_read : read_in (script_of (o ∷ os)) (read_at (script_of (o ∷ os)) 0) ≡ command_of (not (is_none os)) «data» o
    unfolding all_written written_as compact_of header_of command_of pick
    first_read = read_here _ (instruction_of o.kind) (p1_of o) (p2_of o) o.count (bytes_of «data» o) (script_of os) brought (after_first o os) (compact_case_lem o c.mode o.count)

    first-place : place_after (read_at (script_of (o ∷ os)) 0) ≡ length (compact_of «data» o) + 0
    unfolding all_written written_as compact_of header_of pick
    first-place =
        place_here _ (instruction_of o.kind) (p1_of o) (p2_of o) o.count (bytes_of «data» o) (script_of os) brought ∙ sym (compact-length o) ∙ sym (add-zero (length (compact_of «data» o)))

  commands_written : (n : ℕ) {os : List Operation} → AllCarried 0 (length «data») os → length (script_of os) ≤ n → commands_from n (script_of os) 0 ≡ list_commands 0 «data» os
  unfolding commands_from all_written list_commands
  commands_written zero none h = refl
  commands_written (suc n) none h = refl
  commands_written zero (more {o = o} {os = os} c cs) h = absurd (omega (arith, script-length o os))
  commands_written (suc n) (more {o = o} {os = os} c cs) h =
      let l = script-length o os in
      one_more n (script_of (o ∷ os)) _ _ (omega arith) (first_read c os)
      (ap (commands_from n (script_of (o ∷ os))) (first-place c os)
      ∙ ap (λ (s : List ℕ). commands_from n s (length (compact_of «data» o) + 0)) (first-written o os)
      ∙ commands_behind (compact_of «data» o) (script_of os) n 0
      ∙ commands_written n cs (omega arith))

  pub commands_are : {os : List Operation} → AllCarried 0 (length «data») os → commands_of (script_of os) ≡ list_commands 0 «data» os
  unfolding commands_of
  commands_are {os} cs = commands_written (length (script_of os)) cs (omega arith)

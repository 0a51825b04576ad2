-- An input of the right shape has at most 16,427 bytes, so the first 16,428 bytes of what stands on standard input, which `main`
-- reads, decide what is printed for all of it.
-- A line that could be read has its name, a bounded number of digits and a line feed: so the next line begins at most that far on
-- (`number_by`), and after the script's line the input ends (`script-by`). Added up over the four lines this is 16,427 (`longest`). So
-- an input of more than 16,428 bytes is bad, and so are its first 16,428, which are still too many; any other input is read whole.
-- Assumes nothing.
use mathlib.Core.Path.{◌≡◌, refl, sym, ap, ◌∙◌}
use mathlib.Core.Logic.{⊎_elim}
use mathlib.Core.List.{List}
use Prim.Native.Nat.{ℕ, ◌+◌, ◌-◌, ◌≤◌, ◌<◌, min}
use native.Mathlib.Nat.{eq-zero-or-pos}
use native.Mathlib.Omega.{arith}
use lib.Dec.{ltb}
use lib.ListN.{length, take, drop, length-take, length-drop}
use lib.Seq.{take_all}
use borrow.Author.Tests.{ltb-false}
use Rattle.octets.specs.Bytes.{part, starts_with}
use Rattle.octets.proofs.Picks.{on_pick}
use Rattle.std.specs.Prelude.{Option, Some, None, IfSome, option_map, option_and_then}
use Rattle.std.specs.Bool.{then_some}
use mathlib.Core.Bool.{Bool, true, false}
use Rattle.lines.specs.Digits.{ascii, number_of, few_hex, most_digits}
use Rattle.engine.specs.declared.Call.{Call}
use Rattle.lines.specs.Named.{line_feed}
use Rattle.lines.specs.Values.{value_end, value_at, before, number_in, number_at, hex_in, hex_at, then}
use Rattle.lines.specs.Calls.{call_at}
use Rattle.lines.proofs.Hex.{digits_few}
use Rattle.worked.specs.declared.input.Asked.{Asked}
use Rattle.worked.specs.Input.{script_in, script_at, input_of}
use Rattle.worked.specs.Printed.{printed, bad_line}
use Rattle.worked.proofs.Shape.{printed-bad}

-- what holds of a value and of none holds of a value that is kept by a test
on_some : {A : Type 0} (P : Option A → Type 0) (b : Bool) (x : A) → (b ≡ true → P (Some x)) → P None → P (then_some b x)
on_some P true x h g = h refl
on_some P false x h g = g

-- behind a number that was read, the next line begins at the place k or before it
abbrev NextBy : ℕ → Option (ℕ × ℕ) → Type 0
NextBy k field = IfSome field (λ (n, next). next ≤ k)

before-by : (k place : ℕ) (n : Option ℕ) → place ≤ k → NextBy k (before place n)
unfolding before
before-by k place (Some n) h = h
before-by k place None h = tt

module _ (bs : List ℕ) where
  -- a number of at most `most` digits
  module _ (base least most : ℕ) where
    number_in-by : (from to : ℕ) → NextBy (from + most + 1) (number_in bs base least most (from, to))
    unfolding number_in
    number_in-by from to =
        let P : Option (ℕ × ℕ) → Type 0 = NextBy (from + most + 1) in
        on_pick P (ltb (to - from) least) _ _ (λ _. tt)
        (λ _. on_pick P (ltb most (to - from)) _ _ (λ _. tt)
        (λ few. before-by _ (to + 1) (number_of base (part bs from (to - from))) (omega (arith, ltb-false most (to - from) few))))

    number_by : (at : ℕ) (name : List ℕ) → NextBy (at + length name + most + 1) (number_at bs at name line_feed base least most)
    unfolding number_at value_at
    number_by at name =
        on_pick (λ (l : Option (ℕ × ℕ)). NextBy (at + length name + most + 1) (option_and_then (number_in bs base least most) l)) (starts_with (drop at bs) name) _ _
        (λ _. number_in-by (at + length name) (value_end line_feed bs (at + length name))) (λ _. tt)

  then-by : {A : Type 0} {k : ℕ} (P : A → Type 0) (none : A) (f : Option (ℕ × ℕ)) (g : ℕ → ℕ → A) → NextBy k f → P none → ((n next : ℕ) → next ≤ k → P (g n next)) → P (then none f g)
  unfolding then
  then-by P none (Some field) g h missing go = go field.0 field.1 h
  then-by P none None g h missing go = missing

  -- behind what a run is called with, the script's line begins
  call_by : IfSome (call_at bs 0 (ascii "application=") line_feed) (λ (call, fourth). fourth ≤ 35)
  unfolding call_at ascii
  call_by =
      let P : Option (Call × ℕ) → Type 0 = λ o. IfSome o (λ (call, fourth). fourth ≤ 35) in
      then-by P None _ _ (number_by 10 1 3 0 (ascii "application=")) tt λ application second h₁.
      then-by P None _ _ (number_by 16 2 2 second (ascii "domain=")) tt λ domain third h₂.
      then-by P None _ _ (number_by 10 1 1 third (ascii "format=")) tt λ format fourth h₃. omega arith

  -- where the script's digits were read, the input ends
  script_in-by : (from to : ℕ) → IfSome (option_and_then (script_in bs) (hex_in bs most_digits (from, to))) (λ _. length bs ≤ from + 16384 + 1)
  unfolding script_in hex_in
  script_in-by from to =
      let P : Option (ℕ × ℕ) → Type 0 = λ o. IfSome o (λ _. length bs ≤ from + 16384 + 1) in
      on_some (λ o. P (option_and_then (script_in bs) o)) (few_hex most_digits (part bs from (to - from))) (from, to)
      (λ few. on_pick P (ltb (to + 1) (length bs)) _ _ (λ _. tt)
      (λ last.
      let d : min (to - from) (length bs - from) ≤ 16384 = simp (length-take, length-drop) at (digits_few most_digits (part bs from (to - from)) few) in
      omega (arith, ltb-false (to + 1) (length bs) last)))
      tt

  script-by : (at : ℕ) → IfSome (script_at bs at) (λ _. length bs ≤ at + 7 + 16384 + 1)
  unfolding script_at hex_at value_at ascii
  script-by at =
      on_pick (λ (l : Option (ℕ × ℕ)). IfSome (option_and_then (script_in bs) (option_and_then (hex_in bs most_digits) l)) (λ _. length bs ≤ at + 7 + 16384 + 1))
      (starts_with (drop at bs) (ascii "script=")) _ _
      (λ _. script_in-by (at + 7) (value_end line_feed bs (at + 7))) (λ _. tt)

  -- an input that asks for a run
  abbrev Short : Option Asked → Type 0
  Short asked = IfSome asked (λ _. length bs ≤ 16427)

  ends_short : {k : ℕ} (call : Call) (s : Option (ℕ × ℕ)) → IfSome s (λ _. length bs ≤ k) → k ≤ 16427 → Short (option_map (λ (from, to). record { call = call; from = from; to = to }) s)
  ends_short call (Some v) h e = omega arith
  ends_short call None h e = tt

  begins_short : (o : Option (Call × ℕ)) → IfSome o (λ (call, fourth). fourth ≤ 35)
      → Short (option_and_then (λ (call, fourth). option_map (λ (from, to). record { call = call; from = from; to = to }) (script_at bs fourth)) o)
  begins_short (Some c) h = ends_short c.0 (script_at bs c.1) (script-by c.1) (omega arith)
  begins_short None h = tt

  longest : Short (input_of bs)
  unfolding input_of
  longest = begins_short (call_at bs 0 (ascii "application=") line_feed) call_by

  too_long : (a : Option Asked) → Short a → 16427 < length bs → a ≡ None
  too_long (Some a) e h = absurd (omega arith)
  too_long None e h = refl

  printed_long : 16427 < length bs → printed bs ≡ bad_line
  printed_long h = printed-bad bs (too_long (input_of bs) longest h)

-- what is read is enough
pub read-enough : (bs : List ℕ) → printed (take 16428 bs) ≡ printed bs
read-enough bs =
    ⊎_elim
    (λ (short : length bs - 16428 ≡ 0). ap printed (take_all 16428 bs (omega arith)))
    (λ (long : 0 < length bs - 16428). printed_long (take 16428 bs) (rw length-take (omega arith)) ∙ sym (printed_long bs (omega arith)))
    (eq-zero-or-pos (length bs - 16428))

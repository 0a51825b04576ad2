-- The first operation that is not carried, one operation after the other; and what an operation that is carried promises. Assumes nothing.
use mathlib.Core.Path.{◌≡◌, refl, sym, ap, ◌∙◌}
use mathlib.Core.Bool.{Bool, true, false, not, ◌&&◌, ◌||◌, and-false, false≢true}
use mathlib.Core.List.{List, ◌∷◌}
use mathlib.Core.Logic.{⊎_elim}
use Prim.Native.Nat.{ℕ, ◌+◌, ◌≤◌, ◌<◌}
use native.Mathlib.Omega.{arith}
use lib.Dec.{leb, ltb, eqb}
use lib.ListN.{length}
use borrow.Author.Tests.{leb-true, ltb-false, eqb-true, eqb-false, ne_eqb, lt-leb}
use Rattle.std.specs.Prelude.{Result, Ok, Err}
use Rattle.octets.specs.Choice.{pick}
use Rattle.octets.proofs.Picks.{and_left, and_right, or_either, either, on_pick, told-true, told-false}
use Rattle.command.specs.declared.Format.{Format}
use Rattle.command.specs.declared.Format.TheVariants.{Compact, Expanded}
use Rattle.operations.specs.declared.Refusal.{Refusal}
use Rattle.operations.specs.declared.Refusal.TheVariants.{NotCarried}
use Rattle.operations.specs.declared.rows.Operation.{Operation}
use Rattle.operations.specs.Rows.{select, increase, search, next, previous, absolute, forward, backward}
use Rattle.operations.specs.Rows.{is_read, is_binary, is_record, operation_at, operations_in, operations_of, is_list}
use Rattle.operations.specs.Carried.{most_in_byte, most_offset, longest_path}
use Rattle.operations.specs.Carried.{is_format, number_of, format_of, mode_fits, bytes_fit, is_carried, is_none, first_not_carried}
use Rattle.operations.specs.Scripts.{p1_of, p2_of}
use Rattle.operations.specs.Sizes.{Carried}
use Rattle.operations.proofs.Left.{left, some, all_left, none_left, one_left, last-left}

-- a list whose first operation is carried, and one whose first is not
module _ (format size n : ℕ) (o : Operation) (os : List Operation) where
  first-yes : is_carried format size (is_none os) o ≡ true → first_not_carried format size n (o ∷ os) ≡ first_not_carried format size (n + 1) os
  unfolding first_not_carried
  first-yes e = rw (e, first_not_carried)

  first_no : is_carried format size (is_none os) o ≡ false → first_not_carried format size n (o ∷ os) ≡ n
  unfolding first_not_carried
  first_no e = rw (e, first_not_carried)

-- of the operations that are left from a number on
module _ (format size : ℕ) (list : List ℕ) (n i : ℕ) where
  pub all-carried : n ≤ i → first_not_carried format size (i + 1) (left list n i) ≡ 0
  unfolding first_not_carried
  all-carried h = rw (none_left list n i h)

  module _ (inside : i < n) {o : Operation} (is : o ≡ operation_at list i)
      {b : Bool} (here : b ≡ is_carried format size (eqb (i + 1) n) o) where
    told_here : {t : Bool} → is_carried format size (eqb (i + 1) n) o ≡ t
        → is_carried format size (is_none (left list n (i + 1))) (operation_at list i) ≡ t
    told_here e = rw (last-left list n i inside, ← is) e

    pub goes_on_lem : not b ≡ false
        → first_not_carried format size (i + 1 + 1) (left list n (i + 1)) ≡ first_not_carried format size (i + 1) (left list n i)
    goes_on_lem h = rw (one_left list n i inside) (sym (first-yes format size (i + 1) _ _ (told_here (told-true here h))))

    pub stops_here : not b ≡ true → i + 1 ≡ first_not_carried format size (i + 1) (left list n i)
    stops_here h = rw (one_left list n i inside) (sym (first_no format size (i + 1) _ _ (told_here (told-false here h))))

-- tests joined by or: what follows from each of two follows
on_or : {P : Type 0} (a b : Bool) → (a || b) ≡ true → (a ≡ true → P) → (b ≡ true → P) → P
on_or a b h f g = ⊎_elim f g (or_either a b h)

-- an operation of a known kind that reads, and one of no kind
known : (format : Format) → is_format (number_of format) ≡ true
known Compact = refl
known Expanded = refl

pub reads-carried : (format : Format) (size : ℕ) (last : Bool) (o : Operation) (k : ℕ) → o.kind ≡ k → is_read k ≡ true → {m b w : Bool}
    → m ≡ mode_fits k o.mode o.number → b ≡ bytes_fit size k o.from o.count → w ≡ (b && (last || eqb (number_of format) 1))
    → (m && w) ≡ is_carried (number_of format) size last o
unfolding is_carried
reads-carried format size last o k kind reads modes bytes e = rw (e, known format, kind, ← modes, ← bytes, reads)

pub none_carried : (format size : ℕ) (last : Bool) (o : Operation)
    → (o.kind ≡ 1 → ⊥) → (o.kind ≡ 2 → ⊥) → (o.kind ≡ 3 → ⊥) → (o.kind ≡ 4 → ⊥) → (o.kind ≡ 5 → ⊥) → (o.kind ≡ 6 → ⊥) → (o.kind ≡ 7 → ⊥)
    → false ≡ is_carried format size last o
unfolding is_carried mode_fits pick
none_carried format size last o n1 n2 n3 n4 n5 n6 n7 =
    rw (ne_eqb o.kind 1 n1, ne_eqb o.kind 2 n2, ne_eqb o.kind 3 n3, ne_eqb o.kind 4 n4, ne_eqb o.kind 5 n5, ne_eqb o.kind 6 n6, ne_eqb o.kind 7 n7, and-false)

-- the number of a format is 0 or 1, and none has another
FormatFits : ℕ → Result Format Refusal → Type 0
FormatFits number (Ok format) = number_of format ≡ number
FormatFits number (Err refusal) = (refusal ≡ NotCarried 1) × (1 < number)

format_fits : (number : ℕ) → FormatFits number (format_of number)
unfolding FormatFits format_of
format_fits number =
    on_pick (FormatFits number) (eqb number 0) _ _ (λ e. sym (eqb-true number 0 e))
    (λ n. on_pick (FormatFits number) (eqb number 1) _ _ (λ e. sym (eqb-true number 1 e))
    (λ m. (refl, omega (arith, eqb-false number 0 n, eqb-false number 1 m))))

pub number_back : (number : ℕ) {format : Format} → Ok format ≡ format_of number → number_of format ≡ number
unfolding FormatFits
number_back number e = rw (sym e) at (format_fits number)

-- no operation is carried by another format, so a list's first is at fault

pub no_format : (format size : ℕ) (list : List ℕ) → is_list (length list) ≡ true → {refusal : Refusal} → Err refusal ≡ format_of format
    → (refusal ≡ NotCarried 1) × (1 ≡ first_not_carried format size 1 (operations_of list))
unfolding FormatFits is_carried
no_format format size list is none =
    let other = rw (sym none) at (format_fits format) in (
      other.0,
      stops_here format size list (operations_in (length list)) 0 (some (length list) is) refl {b = false} (rw (lt-leb format 1 other.1)) refl
          ∙ ap (first_not_carried format size 1) (all_left list _ refl),
    )

-- what a mode and a number that fit promise: the mode is small, no offset passes the number, and no byte where it is none
record ModeFits (kind mode number : ℕ) : Type 0 where
  small : mode ≤ backward
  offset : number ≤ most_offset
  other : is_binary kind ≡ false → number ≤ most_in_byte

one_of : {mode : ℕ} (a b : ℕ) → a ≤ backward → b ≤ backward → (eqb mode a || eqb mode b) ≡ true → mode ≤ backward
one_of {mode} a b f g h =
    on_or (eqb mode a) (eqb mode b) h (λ e. rw (eqb-true mode a e) f) (λ e. rw (eqb-true mode b e) g)

module _ {kind mode number : ℕ} where
  in_bytes : mode ≤ backward → number ≤ most_in_byte → ModeFits kind mode number
  in_bytes m n = record { small = m; offset = omega arith; other = λ _. n }

  binary_fits : is_binary kind ≡ true → (eqb mode 0 && leb number most_offset) ≡ true → ModeFits kind mode number
  binary_fits y h =
      let none = eqb-true mode 0 (and_left (eqb mode 0) _ h) in
      record {
        small = omega arith;
        offset = leb-true number most_offset (and_right (eqb mode 0) _ h);
        other = λ e. absurd (false≢true (sym e ∙ y));
      }

  record_fits : (((eqb mode next || eqb mode previous) && eqb number 0) || (eqb mode absolute && leb number most_in_byte)) ≡ true
      → ModeFits kind mode number
  record_fits h =
      on_or ((eqb mode next || eqb mode previous) && eqb number 0) _ h
      (λ beside.
      let none = eqb-true number 0 (and_right (eqb mode next || eqb mode previous) _ beside) in
      in_bytes (one_of next previous (omega arith) (omega arith) (and_left (eqb mode next || eqb mode previous) _ beside)) (omega arith))
      (λ named.
      let way = eqb-true mode absolute (and_left (eqb mode absolute) _ named) in
      in_bytes (omega arith) (leb-true number most_in_byte (and_right (eqb mode absolute) _ named)))

  search-fits : ((eqb mode forward || eqb mode backward) && leb number most_in_byte) ≡ true → ModeFits kind mode number
  search-fits h =
      in_bytes (one_of forward backward (omega arith) (omega arith) (and_left (eqb mode forward || eqb mode backward) _ h))
      (leb-true number most_in_byte (and_right (eqb mode forward || eqb mode backward) _ h))

  plain_fits : (eqb mode 0 && eqb number 0) ≡ true → ModeFits kind mode number
  plain_fits h =
      let m = eqb-true mode 0 (and_left (eqb mode 0) _ h) in
      let n = eqb-true number 0 (and_right (eqb mode 0) _ h) in
      in_bytes (omega arith) (omega arith)

  mode_fits_lem : mode_fits kind mode number ≡ true → ModeFits kind mode number
  unfolding mode_fits
  mode_fits_lem =
      on_pick Promises (is_binary kind) _ _ binary_fits
      (λ _. on_pick Promises (is_record kind) _ _ (λ _. record_fits)
      (λ _. on_pick Promises (eqb kind search) _ _ (λ _. search-fits) (λ _ h. plain_fits (and_right (eqb kind select || eqb kind increase) _ h))))
    where
      Promises : Bool → Type 0
      Promises b = b ≡ true → ModeFits kind mode number

-- what bytes that fit promise: a byte counts them, and where the operation brings them they lie in the data
record BytesFit (size kind from count : ℕ) : Type 0 where
  byte : count ≤ most_in_byte
  inside : is_read kind ≡ false → from + count ≤ size

module _ {size kind from count : ℕ} where
  read_fits : is_read kind ≡ true → (eqb from 0 && leb count most_in_byte) ≡ true → BytesFit size kind from count
  read_fits y h =
      record {
        byte = leb-true count most_in_byte (and_right (eqb from 0) _ h);
        inside = λ e. absurd (false≢true (sym e ∙ y));
      }

  held_fits : from + count ≤ size → count ≤ most_in_byte → BytesFit size kind from count
  held_fits inside few = record { byte = few; inside = λ _. inside }

  bytes_fit_lem : bytes_fit size kind from count ≡ true → BytesFit size kind from count
  unfolding bytes_fit
  bytes_fit_lem =
      on_pick Promises (is_read kind) _ _ read_fits
      (λ _. on_pick Promises (ltb size (from + count)) _ _ (λ _ h. absurd (false≢true h))
      (λ n. let inside = ltb-false size (from + count) n in
      on_pick Promises (eqb kind select) _ _
      (λ _ h. held_fits inside (let short = leb-true count longest_path (and_left (leb count longest_path) _ (and_right (leb 2 count) _ h)) in omega arith))
      (λ _ h. held_fits inside (leb-true count most_in_byte (and_right (leb 1 count) _ h)))))
    where
      Promises : Bool → Type 0
      Promises b = b ≡ true → BytesFit size kind from count

-- an operation that is carried
is_carried_lem : (format size : ℕ) (last : Bool) (o : Operation) → is_carried format size last o ≡ true → Carried size o
unfolding is_carried p1_of p2_of
is_carried_lem format size last o h =
    let rest = and_right (is_format format) _ h in
    let modes = mode_fits_lem (and_left (mode_fits o.kind o.mode o.number) _ rest) in
    let rest' = and_right (mode_fits o.kind o.mode o.number) _ rest in
    let bytes = bytes_fit_lem (and_left (bytes_fit size o.kind o.from o.count) _ rest') in
    record {
      p1 = on_pick (λ (n : ℕ). n < 256) (eqb o.kind select) _ _ (λ _. omega arith)
          (λ _. on_pick (λ (n : ℕ). n < 256) (is_binary o.kind) _ _ (λ _. omega arith) (λ e. omega (arith, modes.other e)));
      p2 = on_pick (λ (n : ℕ). n < 256) (eqb o.kind select) _ _ (λ _. omega arith)
          (λ _. on_pick (λ (n : ℕ). n < 256) (is_binary o.kind) _ _ (λ _. omega arith) (λ _. omega arith));
      count = omega arith;
      inside = bytes.inside;
    }

-- a list that is carried: its first operation is, and so are the others
module _ (format size n : ℕ) (o : Operation) (os : List Operation) (carried : first_not_carried format size (n + 1) (o ∷ os) ≡ 0) where
  first-is : is_carried format size (is_none os) o ≡ true
  first-is =
      ⊎_elim (λ yes. yes) (λ no. absurd (omega (arith, first_no format size (n + 1) o os no)))
      (either (is_carried format size (is_none os) o))

  pub first-carried : Carried size o
  first-carried = is_carried_lem format size (is_none os) o first-is

  pub others-carried : first_not_carried format size (n + 1 + 1) os ≡ 0
  others-carried = sym (first-yes format size (n + 1) o os first-is) ∙ carried

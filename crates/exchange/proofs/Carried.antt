-- What is known of an operation that a format carries, and that every operation of a list without a fault is carried.
-- A carried operation has one of seven kinds, so a law of all kinds is one law for each (`by_kind`). Assumes nothing.
use Prim.Native.Nat.{ℕ, ◌+◌, ◌%◌, ◌≤◌}
use mathlib.Core.Path.{◌≡◌, sym, subst, ◌∙◌}
use mathlib.Core.Bool.{Bool, true, false, ◌&&◌, ◌||◌, false≢true}
use mathlib.Core.List.{List, [], ◌∷◌}
use mathlib.Core.Logic.{⊎_elim}
use native.Mathlib.Omega.{arith}
use lib.Dec.{leb, ltb, eqb}
use lib.ListN.{length}
use borrow.Author.Tests.{leb-true, ltb-false, eqb-true}
use Rattle.octets.specs.Choice.{pick}
use Rattle.octets.specs.Bytes.{part}
use Rattle.octets.proofs.Picks.{pick_true, pick-false, on_test, on_pick, and_left, and_right, or_either}
use Rattle.octets.proofs.Writes.{part_length}
use Rattle.operations.specs.declared.rows.Operation.{Operation}
use Rattle.operations.specs.Rows.{select, search, is_read, is_binary, is_record}
use Rattle.operations.specs.Carried.{is_format, most_in_byte, longest_path, mode_fits, bytes_fit, is_carried, is_none, first_not_carried}
use Rattle.operations.specs.Scripts.{bytes_of}

-- what the bytes of a carried operation are: few, and of any but a read one or more that stand in `size` bytes of data
pub record Brings (size : ℕ) (o : Operation) : Type 0 where
  pub few : o.count ≤ 255
  pub some : is_read o.kind ≡ false → 1 ≤ o.count
  pub inside : is_read o.kind ≡ false → o.from + o.count ≤ size

-- a carried operation
pub record IsCarried (format size : ℕ) (o : Operation) : Type 0 where
  pub known : format ≤ 1
  pub mode : mode_fits o.kind o.mode o.number ≡ true
  pub brings : Brings size o

-- ---- its kind

module _ (P : ℕ → Type 0) (o : Operation) where
  is : (k : ℕ) → P k → eqb o.kind k ≡ true → P o.kind
  is k p y = subst P (sym (eqb-true o.kind k y)) p

  either_is : (j k : ℕ) → P j → P k → (eqb o.kind j || eqb o.kind k) ≡ true → P o.kind
  either_is j k p q y = ⊎_elim (is j p) (is k q) (or_either (eqb o.kind j) _ y)

  pub by_kind : mode_fits o.kind o.mode o.number ≡ true → P 1 → P 2 → P 3 → P 4 → P 5 → P 6 → P 7 → P o.kind
  unfolding mode_fits
  by_kind fits p1 p2 p3 p4 p5 p6 p7 =
      on_pick Kinds (is_binary o.kind) _ _ (λ y _. either_is 2 3 p2 p3 y)
      (λ _. on_pick Kinds (is_record o.kind) _ _ (λ y _. either_is 4 5 p4 p5 y)
      (λ _. on_pick Kinds (eqb o.kind search) _ _ (λ y _. is 7 p7 y) (λ _ h. either_is 1 6 p1 p6 (and_left _ _ h)))) fits
    where
      Kinds : Bool → Type 0
      Kinds b = b ≡ true → P o.kind

-- ---- its bytes

not_both : (b : Bool) → b ≡ true → b ≡ false → ⊥
not_both b y n = false≢true (sym n ∙ y)

module _ (size : ℕ) (o : Operation) where
  abbrev as_read : Bool
  as_read = eqb o.from 0 && leb o.count most_in_byte

  abbrev as_path : Bool
  as_path = leb 2 o.count && (leb o.count longest_path && eqb (o.count % 2) 0)

  abbrev as_bytes : Bool
  as_bytes = leb 1 o.count && leb o.count most_in_byte

  read_brings : is_read o.kind ≡ true → as_read ≡ true → Brings size o
  read_brings y e =
      record {
        few = leb-true o.count _ (and_right (eqb o.from 0) _ e);
        some = λ n. absurd (not_both _ y n);
        inside = λ n. absurd (not_both _ y n);
      }

  held_brings : o.from + o.count ≤ size → 1 ≤ o.count → o.count ≤ 255 → Brings size o
  held_brings inside least most = record { few = most; some = λ _. least; inside = λ _. inside }

  path_brings : o.from + o.count ≤ size → as_path ≡ true → Brings size o
  path_brings inside e =
      let least = leb-true 2 o.count (and_left _ _ e) in
      let most = leb-true o.count longest_path (and_left _ _ (and_right (leb 2 o.count) _ e)) in
      held_brings inside (omega arith) (omega arith)

  bytes_bring : o.from + o.count ≤ size → as_bytes ≡ true → Brings size o
  bytes_bring inside e = held_brings inside (leb-true 1 _ (and_left _ _ e)) (leb-true _ most_in_byte (and_right (leb 1 o.count) _ e))

  brought : bytes_fit size o.kind o.from o.count ≡ true → Brings size o
  unfolding bytes_fit
  brought =
      on_pick Bring (is_read o.kind) _ _ read_brings
      (λ _. on_pick Bring (ltb size (o.from + o.count)) _ _ (λ _ e. absurd (false≢true e))
      (λ n. let inside = ltb-false size (o.from + o.count) n in
      on_pick Bring (eqb o.kind select) _ _ (λ _. path_brings inside) (λ _. bytes_bring inside)))
    where
      Bring : Bool → Type 0
      Bring b = b ≡ true → Brings size o

  is_carried_lem : (format : ℕ) (last : Bool) → is_carried format size last o ≡ true → IsCarried format size o
  unfolding is_carried
  is_carried_lem format last e =
      let fits = and_right (is_format format) _ e in
      record {
        known = leb-true format 1 (and_left _ _ e);
        mode = and_left _ _ fits;
        brings = brought (and_left _ _ (and_right (mode_fits o.kind o.mode o.number) _ fits));
      }

-- how many they are
pub bytes-length : («data» : List ℕ) (o : Operation) → Brings (length «data») o → length (bytes_of «data» o) ≡ pick (is_read o.kind) 0 o.count
unfolding bytes_of
bytes-length «data» o b =
    sym
    (on_pick (λ (n : ℕ). n ≡ length (pick (is_read o.kind) [] (part «data» o.from o.count))) (is_read o.kind) _ _
    (λ y. rw (pick_true _ _ _ y)) (λ n. rw (pick-false _ _ _ n) (sym (part_length «data» o.from o.count (b.inside n)))))

-- ---- the operations of a list

pub data AllCarried (format size : ℕ) : List Operation → Type 0 where
  none : AllCarried format size []
  more : {o : Operation} {os : List Operation} → IsCarried format size o → AllCarried format size os → AllCarried format size (o ∷ os)

pub all-carried : (format size n : ℕ) (os : List Operation) → 1 ≤ n → first_not_carried format size n os ≡ 0 → AllCarried format size os
unfolding first_not_carried
all-carried format size n [] h e = none
all-carried format size n (o ∷ os) h e =
    on_test (λ (m : ℕ). m ≡ 0 → AllCarried format size (o ∷ os)) (is_carried format size (is_none os) o) _ _
    (λ y z. more (is_carried_lem size o format (is_none os) y) (all-carried format size (n + 1) os (omega arith) z))
    (λ _ z. absurd (omega arith)) e

-- The pieces of a template in a script of bytes: the fifth byte of each C-APDU is a byte, a bad format has a code 01 to 03 and is the last
-- of them, and there are no more pieces than bytes. Assumes nothing.
use Rattle.std.specs.Prelude.{Option, Some, None}
use Prim.Native.Nat.{ℕ, zero, suc, ◌+◌, ◌≤◌, ◌<◌}
use mathlib.Core.Path.{◌≡◌, refl}
use mathlib.Core.Bool.{Bool}
use mathlib.Core.List.{List, [], ◌∷◌}
use native.Mathlib.Omega.{arith}
use lib.ListN.{length}
use Rattle.octets.specs.Bytes.{byte, AllBytes, part}
use Rattle.octets.proofs.Picks.{on_pick, on_test}
use Rattle.tlv.specs.declared.lengths.Length.{Length}
use Rattle.tlv.specs.declared.lengths.Length.TheVariants as lengths
use Rattle.tlv.specs.declared.template.Template.{Template}
use Rattle.tlv.specs.declared.template.Template.TheVariants.{Definite, Indefinite}
use Rattle.tlv.specs.declared.template.Item.{Item}
use Rattle.tlv.specs.declared.template.Item.TheVariants.{Capdu, Bad, End}
use Rattle.tlv.specs.Lengths.{short_length, long_length, length_at}
use Rattle.tlv.specs.Templates.{value_at, item_at}
use Rattle.expanded.proofs.Runs.{part_small, on_item}
use Rattle.demands.specs.Commands.{after, Piece, capdu, bad_format, pieces_from, pieces_in, pieces_of}

-- ---- the codes

-- "01 other tag; 03 no length byte ..; 02 other length form"
pub record Code (code : ℕ) : Type 0 where
  pub least : 1 ≤ code
  pub most : code ≤ 3

one : Code 1
one = record { least = omega arith; most = omega arith }

two : Code 2
two = record { least = omega arith; most = omega arith }

three : Code 3
three = record { least = omega arith; most = omega arith }

abbrev LengthCoded : Length → Type 0
LengthCoded (lengths.Found n at) = Unit
LengthCoded (lengths.Bad code) = Code code

abbrev Coded : Item → Type 0
Coded (Capdu from size) = Unit
Coded (Bad code) = Code code
Coded End = Unit

module _ (script : List ℕ) where
  length_coded : (at end : ℕ) → LengthCoded (length_at script at end)
  unfolding length_at short_length long_length
  length_coded at end =
      on_pick LengthCoded _ _ _
      (λ _.
      on_pick LengthCoded _ _ _ (λ _. tt)
      (λ _.
      on_pick LengthCoded _ _ _ (λ _. on_pick LengthCoded _ _ _ (λ _. on_pick LengthCoded _ _ _ (λ _. tt) (λ _. two)) (λ _. three))
      (λ _.
      on_pick LengthCoded _ _ _ (λ _. on_pick LengthCoded _ _ _ (λ _. on_pick LengthCoded _ _ _ (λ _. tt) (λ _. two)) (λ _. three)) (λ _. two))))
      (λ _. three)

  value_coded : (l : Length) (end : ℕ) → LengthCoded l → Coded (value_at l end)
  unfolding value_at
  value_coded (lengths.Found n at) end h = on_pick Coded _ _ _ (λ _. tt) (λ _. two)
  value_coded (lengths.Bad code) end h = h

  item_coded : (at end : ℕ) → Coded (item_at script at end)
  unfolding item_at
  item_coded at end =
      on_pick Coded _ _ _
      (λ _. on_pick Coded _ _ _ (λ _. value_coded (length_at script (at + 1) end) end (length_coded (at + 1) end)) (λ _. one))
      (λ _. tt)

-- ---- the pieces

abbrev pub Formed : List Piece → Type 0
Formed [] = Unit
Formed (capdu bytes ∷ rest) = (byte bytes 4 < 256) × Formed rest
Formed (bad_format code ∷ rest) = Code code × (rest ≡ [])

module _ (script : List ℕ) where
  pieces-few : (n at end : ℕ) → length (pieces_from n script at end) ≤ n
  unfolding pieces_from
  pieces-few zero at end = omega arith
  pieces-few (suc n) at end =
      on_item (λ (l : List Piece). length l ≤ suc n) (item_at script at end) _ _ []
      (λ from size. omega (arith, pieces-few n (from + size) end))
      (λ code. omega arith)
      (omega arith)

  -- a template has no more pieces than its script has bytes
  pub template-few : (template : Option Template) → length (pieces_of template script) ≤ length script
  unfolding pieces_of pieces_in
  template-few (Some (Definite at end)) = pieces-few (length script) at end
  template-few (Some (Indefinite at end)) = pieces-few (length script) at end
  template-few None = omega arith

  module _ (small : AllBytes script) where
    item_formed : (item : Item) → Coded item → (rest : ℕ → ℕ → List Piece) → ((from size : ℕ) → Formed (rest from size))
        → Formed (elim item [ Capdu from size ↦ capdu (part script from size) ∷ rest from size | Bad code ↦ bad_format code ∷ [] | End ↦ [] ])
    item_formed (Capdu from size) h rest formed = (part_small script small from size 4, formed from size)
    item_formed (Bad code) h rest formed = (h, refl)
    item_formed End h rest formed = tt

    pieces-formed : (n at end : ℕ) → Formed (pieces_from n script at end)
    unfolding pieces_from
    pieces-formed zero at end = tt
    pieces-formed (suc n) at end = item_formed (item_at script at end) (item_coded script at end) _ (λ from size. pieces-formed n (from + size) end)

    pub template-formed : (template : Option Template) → Formed (pieces_of template script)
    unfolding pieces_of pieces_in
    template-formed (Some (Definite at end)) = pieces-formed (length script) at end
    template-formed (Some (Indefinite at end)) = pieces-formed (length script) at end
    template-formed None = tt

-- no more of them run than there are
pub after-few : {S R : Type 0} (does : S → R → S) (on : S → Bool) (s : S) (rs : List R) → length (after does on s rs) ≤ length rs
unfolding after
after-few does on s [] = omega arith
after-few {S} {R} does on s (r ∷ rs) =
    on_test (λ (l : List S). length {A = S} (does s r ∷ l) ≤ length {A = R} (r ∷ rs)) (on (does s r)) _ []
    (λ _. omega (arith, after-few does on (does s r) rs))
    (λ _. omega arith)

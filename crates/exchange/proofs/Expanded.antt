-- Expanded: the template of a script that was built runs to the script's end, and its pieces are the list's C-APDUs.
-- Pieces behind a prefix are those without it (`pieces-behind`), so the value is read from its front: the first piece is the first operation's
-- C-APDU, whose length was written and is read again (`item_here`), and what is behind it is the value of the rest. Assumes nothing.
use Rattle.std.specs.Prelude.{Option, Some}
use Prim.Native.Nat.{ℕ, zero, suc, ◌+◌, ◌≤◌, ◌<◌}
use mathlib.Core.Path.{◌≡◌, refl, sym, ap, ◌∙◌}
use mathlib.Core.List.{List, [], ◌∷◌, ◌++◌, append_assoc}
use native.Mathlib.Nat.{add_assoc}
use native.Mathlib.Omega.{arith}
use lib.ListN.{length, take, length-append}
use lib.Seq.{drop-append-add, drop_at, take-append_seam}
use borrow.Author.Tests.{le-leb}
use Rattle.octets.specs.Choice.{pick}
use Rattle.octets.specs.Bytes.{part}
use Rattle.octets.proofs.Picks.{yes, lt_yes, eq_yes, and_both}
use Rattle.tlv.specs.declared.lengths.Length.{Length}
use Rattle.tlv.specs.declared.lengths.Length.TheVariants.{Found}
use Rattle.tlv.specs.declared.template.Template.{Template}
use Rattle.tlv.specs.declared.template.Template.TheVariants.{Definite}
use Rattle.tlv.specs.declared.template.Item.{Item}
use Rattle.tlv.specs.declared.template.Item.TheVariants.{Capdu, Bad, End}
use Rattle.tlv.specs.Lengths.{length_at, length_bytes}
use Rattle.tlv.specs.Templates.{definite, template_of, is_capdu_tag, value_at, item_at}
use Rattle.tlv.proofs.Behind.{item_moved, item_behind, length-read-behind}
use Rattle.step.specs.Limits.{longest_script}
use Rattle.demands.specs.Commands.{Piece, capdu, bad_format, pieces_from, pieces_in, pieces_of}
use Rattle.operations.specs.declared.rows.Operation.{Operation}
use Rattle.operations.specs.Scripts.{capdu_of, tlv_of, written_as, all_written, templated}
use Rattle.exchange.specs.Understood.{list_capdus}
use Rattle.exchange.proofs.Carried.{AllCarried, none, more}
use Rattle.exchange.proofs.Capdus.{capdu-sized}

-- the pieces from an item on, and the next `n`
abbrev item_pieces : ℕ → List ℕ → ℕ → Item → List Piece
item_pieces n script end item =
    elim item [
      | Capdu from size ↦ capdu (part script from size) ∷ pieces_from n script (from + size) end
      | Bad code ↦ bad_format code ∷ []
      | End ↦ []
    ]

-- ---- pieces behind a prefix

module _ (pre s : List ℕ) (end : ℕ) where
  abbrev k : ℕ
  k = length pre

  item_pieces-behind : (n : ℕ) → ((at : ℕ) → pieces_from n (pre ++ s) (k + at) (k + end) ≡ pieces_from n s at end) → (item : Item)
      → item_pieces n (pre ++ s) (k + end) (item_moved k item) ≡ item_pieces n s end item
  unfolding item_moved
  item_pieces-behind n others (Capdu from size) =
      let rest = ap (λ (p : ℕ). pieces_from n (pre ++ s) p (k + end)) (add_assoc k from size) ∙ others (from + size) in
      λ i. capdu (take size (drop-append-add pre s from i)) ∷ rest i
  item_pieces-behind n others (Bad code) = refl
  item_pieces-behind n others End = refl

  pieces-behind : (n at : ℕ) → pieces_from n (pre ++ s) (k + at) (k + end) ≡ pieces_from n s at end
  unfolding pieces_from
  pieces-behind zero at = refl
  pieces-behind (suc n) at =
      ap (item_pieces n (pre ++ s) (k + end)) (item_behind pre s end at) ∙ item_pieces-behind n (pieces-behind n) (item_at s at end)

-- ---- a value behind its tag and its length

-- how long a value's length is
abbrev length_size : List ℕ → ℕ
length_size value = length (length_bytes (length value))

tagged_length : (value : List ℕ) (tag : ℕ) → length {A = ℕ} (tag ∷ (length_bytes (length value) ++ value)) ≡ 1 + (length_size value + length value)
tagged_length value tag = let l = length-append (length_bytes (length value)) value in omega arith

module _ (value : List ℕ) (small : length value < 65536) where
  -- the length that stands behind a tag
  length-here : (tag : ℕ) (rest : List ℕ) (end : ℕ) → length_size value ≤ end
      → length_at (tag ∷ (length_bytes (length value) ++ rest)) 1 (1 + end) ≡ Found (length value) (1 + length_size value)
  length-here tag rest end room = length-read-behind (tag ∷ []) (length value) rest end small room

  found-value : (end : ℕ) → 4 ≤ length value → length_size value + length value ≤ end → Capdu (1 + length_size value) (length value) ≡ value_at (Found (length value) (1 + length_size value)) (1 + end)
  unfolding value_at
  found-value end least room =
      yes _ _ (and_both _ _ (le-leb (1 + length_size value + length value) (1 + end) (omega arith)) (le-leb 4 (length value) least)) refl

  item_here : (rest : List ℕ) (end : ℕ) → 4 ≤ length value → length_size value + length value ≤ end
      → item_at (0x22 ∷ (length_bytes (length value) ++ rest)) 0 (1 + end) ≡ Capdu (1 + length_size value) (length value)
  unfolding item_at is_capdu_tag
  item_here rest end least room =
      sym
      (lt_yes 0 (1 + end) _ (omega arith)
      (yes _ _ refl (found-value end least room ∙ ap (λ (l : Length). value_at l (1 + end)) (sym (length-here 0x22 rest end (omega arith))))))

  -- a template
  definite-here : (end : ℕ) → end ≡ 1 + (length_size value + length value) → definite (length_at (templated value) 1 end) end ≡ Some (Definite (1 + length_size value) end)
  unfolding templated definite
  definite-here end e =
      rw (e, length-here 0xAA value (length_size value + length value) (omega arith))
      (sym (eq_yes (1 + length_size value + length value) (1 + (length_size value + length value)) _ (omega arith) refl))

  template-is : template_of (templated value) ≡ Some (Definite (1 + length_size value) (length (templated value)))
  unfolding template_of templated pick
  template-is = definite-here (length (templated value)) (tagged_length value 0xAA)

-- ---- the first piece

one_piece : (n : ℕ) (script : List ℕ) (end from size : ℕ) {bytes : List ℕ} {ps : List Piece} → item_at script 0 end ≡ Capdu from size → part script from size ≡ bytes → pieces_from n script (from + size) end ≡ ps
    → pieces_from (suc n) script 0 end ≡ capdu bytes ∷ ps
unfolding pieces_from
one_piece n script end from size item bytes others = ap (item_pieces n script end) item ∙ (λ i. capdu (bytes i) ∷ others i)

module _ (value : List ℕ) (small : length value < 65536) (least : 4 ≤ length value) (rest : List ℕ) where
  abbrev script : List ℕ
  script = tlv_of value ++ rest

  abbrev tagged : List ℕ
  tagged = 0x22 ∷ length_bytes (length value)

  value_in : script ≡ tagged ++ (value ++ rest)
  unfolding tlv_of
  value_in = ap (λ (l : List ℕ). 0x22 ∷ l) (append_assoc (length_bytes (length value)) value rest)

  tlv_length : length (tlv_of value) ≡ 1 + (length_size value + length value)
  unfolding tlv_of
  tlv_length = tagged_length value 0x22

  first_item : item_at script 0 (length script) ≡ Capdu (1 + length_size value) (length value)
  first_item =
      let l = length-append (tlv_of value) rest in
      let t = tlv_length in
      let e : length script ≡ 1 + (length_size value + length value + length rest) = omega arith in
      ap (item_at script 0) e ∙ ap (λ (s : List ℕ). item_at s 0 (1 + (length_size value + length value + length rest))) value_in
      ∙ item_here value small (value ++ rest) (length_size value + length value + length rest) least (omega arith)

  first-bytes : part script (1 + length_size value) (length value) ≡ value
  first-bytes =
      ap (λ (s : List ℕ). part s (1 + length_size value) (length value)) value_in
      ∙ ap (take (length value)) (drop_at tagged (value ++ rest) (1 + length_size value) (omega arith)) ∙ take-append_seam value rest

  others-behind : (n : ℕ) → pieces_from n script (1 + length_size value + length value) (length script) ≡ pieces_from n rest 0 (length rest)
  others-behind n =
      let l = tlv_length in
      let place : 1 + length_size value + length value ≡ length (tlv_of value) + 0 = omega arith in
      (λ i. pieces_from n script (place i) (length-append (tlv_of value) rest i)) ∙ pieces-behind (tlv_of value) rest (length rest) n 0

  first_piece : (n : ℕ) {ps : List Piece} → pieces_from n rest 0 (length rest) ≡ ps → pieces_from (suc n) script 0 (length script) ≡ capdu value ∷ ps
  first_piece n others = one_piece n script (length script) (1 + length_size value) (length value) first_item first-bytes (others-behind n ∙ others)

-- ---- a list

module _ («data» : List ℕ) where
  abbrev value_of : List Operation → List ℕ
  value_of os = all_written 1 «data» os

  first-written : (o : Operation) (os : List Operation) → value_of (o ∷ os) ≡ tlv_of (capdu_of «data» o) ++ value_of os
  unfolding all_written written_as pick
  first-written o os = refl

  value_longer : (o : Operation) (os : List Operation) → length (value_of os) < length (value_of (o ∷ os))
  unfolding tlv_of
  value_longer o os = omega (arith, ap length (first-written o os), length-append (tlv_of (capdu_of «data» o)) (value_of os))

  pieces-written : (n : ℕ) {os : List Operation} → AllCarried 1 (length «data») os → length (value_of os) ≤ n → pieces_from n (value_of os) 0 (length (value_of os)) ≡ list_capdus «data» os
  unfolding pieces_from item_at all_written list_capdus pick
  pieces-written zero none h = refl
  pieces-written (suc n) none h = refl
  pieces-written zero (more {o = o} {os = os} c cs) h = absurd (omega (arith, value_longer o os))
  pieces-written (suc n) (more {o = o} {os = os} c cs) h =
      let longer = value_longer o os in
      let sized = capdu-sized «data» o c in
      ap (λ (s : List ℕ). pieces_from (suc n) s 0 (length s)) (first-written o os)
      ∙ first_piece (capdu_of «data» o) (omega arith) (omega arith) (value_of os) n (pieces-written n cs (omega arith))

  module _ {os : List Operation} (cs : AllCarried 1 (length «data») os) (short : length (templated (value_of os)) ≤ longest_script) where
    abbrev value : List ℕ
    value = value_of os

    value-small : length value < 65536
    unfolding templated
    value-small = let l = tagged_length value 0xAA in omega arith

    pub template-runs : template_of (templated value) ≡ Some (Definite (1 + length_size value) (length (templated value)))
    template-runs = template-is value value-small

    value-pieces : pieces_from (length (templated value)) (templated value) (1 + length_size value) (length (templated value)) ≡ list_capdus «data» os
    unfolding templated
    value-pieces =
        let l = tagged_length value 0xAA in
        let tagged : List ℕ = 0xAA ∷ length_bytes (length value) in
        let place : 1 + length_size value ≡ length tagged + 0 = omega arith in
        let end : length (templated value) ≡ length tagged + length value = omega arith in
        (λ i. pieces_from (length (templated value)) (templated value) (place i) (end i))
        ∙ pieces-behind tagged value (length value) (length (templated value)) 0
        ∙ pieces-written (length (templated value)) cs (omega arith)

    pub pieces_are : pieces_of (template_of (templated value)) (templated value) ≡ list_capdus «data» os
    unfolding pieces_of pieces_in
    pieces_are = ap (λ (t : Option Template). pieces_of t (templated value)) template-runs ∙ value-pieces

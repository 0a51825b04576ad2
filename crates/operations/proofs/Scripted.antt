-- The bytes of operations and of a script: how many they are, and that runs which are written one behind the other are those bytes.
-- Assumes nothing.
use mathlib.Core.Path.{◌≡◌, refl, sym, ap, ◌∙◌}
use mathlib.Core.Bool.{true, false}
use mathlib.Core.List.{List, [], ◌∷◌, ◌++◌, append_assoc}
use mathlib.Core.Logic.{⊎_elim}
use Prim.Native.Nat.{ℕ, ◌+◌, ◌-◌, ◌≤◌, ◌<◌}
use native.Mathlib.Nat.{add-zero}
use native.Mathlib.Omega.{arith}
use lib.Dec.{eqb}
use lib.ListN.{length, length-append}
use Rattle.octets.specs.Choice.{pick}
use Rattle.octets.specs.Bytes.{part, overwrite}
use Rattle.octets.proofs.Picks.{pick_true, pick-false, eq_yes, eq_no, on_pick, either}
use Rattle.octets.proofs.Writes.{part-lent, part_length}
use Rattle.tlv.specs.Lengths.{length_bytes}
use Rattle.step.specs.Limits.{longest_script}
use Rattle.command.specs.Instructions.{class_of}
use Rattle.expanded.proofs.Written.{after}
use Rattle.operations.specs.declared.rows.Operation.{Operation}
use Rattle.operations.specs.Rows.{is_read, operations_of}
use Rattle.operations.specs.Carried.{first_not_carried}
use Rattle.operations.specs.Scripts.{instruction_of, p1_of, p2_of, header_of, bytes_of, has_le, le_of, compact_of, capdu_of, tlv_of}
use Rattle.operations.specs.Scripts.{written_as, all_written, templated, script_of}
use Rattle.operations.specs.Sizes.{Carried, Writable, header_size, compact_size, capdu_size, tlv_size, written_size, all_size, script_size}
use Rattle.operations.proofs.Carrying.{first-carried, others-carried}
use Rattle.operations.proofs.Counted.{size-some}

-- a header
pub class-byte : (i : ℕ) → class_of i < 256
unfolding class_of
class-byte i = on_pick (λ (n : ℕ). n < 256) _ _ _ (λ _. omega arith) (λ _. omega arith)

pub header-written : (m : List ℕ) (at : ℕ) (o : Operation) {class i p1 p2 : ℕ} {w : List ℕ}
    → class ≡ class_of i → i ≡ instruction_of o.kind → p1 ≡ p1_of o → p2 ≡ p2_of o
    → w ≡ overwrite m at (class ∷ i ∷ p1 ∷ p2 ∷ o.count ∷ []) → w ≡ overwrite m at (header_of o)
unfolding header_of
header-written m at o hc hi h1 h2 written = written ∙ rw (hc, hi, h1, h2)

header_length : (o : Operation) → length (header_of o) ≡ header_size
unfolding header_of
header_length o = refl

-- a command of a compact script: a read brings no bytes, another operation those of the data
module _ (o : Operation) where
  size-read : is_read o.kind ≡ true → compact_size o ≡ header_size
  unfolding compact_size
  size-read e = pick_true _ _ _ e

  pub size_other : is_read o.kind ≡ false → compact_size o ≡ header_size + o.count
  unfolding compact_size
  size_other e = pick-false _ _ _ e

module _ (d : List ℕ) (o : Operation) where
  compact_read_lem : is_read o.kind ≡ true → header_of o ≡ compact_of d o
  unfolding compact_of bytes_of header_of pick
  compact_read_lem e = rw e

  compact_other : is_read o.kind ≡ false → header_of o ++ part d o.from o.count ≡ compact_of d o
  unfolding compact_of bytes_of pick
  compact_other e = rw e

module _ (m d : List ℕ) (at : ℕ) (o : Operation) {w₁ : List ℕ} (header : w₁ ≡ overwrite m at (header_of o)) where
  pub read-written : is_read o.kind ≡ true → (w₁ ≡ overwrite m at (compact_of d o)) × (at + header_size ≡ at + compact_size o)
  read-written e = (header ∙ ap (overwrite m at) (compact_read_lem d o e), omega (arith, size-read o e))

  pub command-written : is_read o.kind ≡ false → o.from + o.count ≤ length d → at + compact_size o ≤ length m → {w₂ : List ℕ}
      → w₂ ≡ overwrite w₁ (at + header_size) (part d o.from (o.from + o.count - o.from))
      → (w₂ ≡ overwrite m at (compact_of d o)) × (at + header_size + o.count ≡ at + compact_size o)
  command-written e inside fits bytes =
      let l = header_length o in
      let k = part_length d o.from o.count inside in
      let s = size_other o e in
      let b = rw (part-lent d o.from o.count) at bytes in
      let w = after m at (header_of o) (part d o.from o.count) header (omega arith) b (omega arith) in
      (w ∙ ap (overwrite m at) (compact_other d o e), omega arith)

pub bytes-length : (d : List ℕ) (o : Operation) → o.from + o.count ≤ length d
    → length (part d o.from (o.from + o.count - o.from)) ≡ o.count
bytes-length d o inside = ap length (part-lent d o.from o.count) ∙ part_length d o.from o.count inside

-- how many bytes an operation is that is carried
module _ (d : List ℕ) (o : Operation) (carried : Carried (length d) o) where
  compact-length : length (compact_of d o) ≡ compact_size o
  compact-length =
      let l = header_length o in
      ⊎_elim
      (λ e. ap length (sym (compact_read_lem d o e)) ∙ l ∙ sym (size-read o e))
      (λ e.
      let k = part_length d o.from o.count (carried.inside e) in
      ap length (sym (compact_other d o e)) ∙ length-append (header_of o) (part d o.from o.count) ∙ rw (l, k) (sym (size_other o e)))
      (either (is_read o.kind))

-- a C-APDU: the command, and Le where the kind has it
pub le_there : (kind : ℕ) → has_le kind ≡ true → le_of kind ≡ 0 ∷ []
unfolding le_of
le_there kind e = pick_true _ _ _ e

pub le_none : (kind : ℕ) → has_le kind ≡ false → le_of kind ≡ []
unfolding le_of
le_none kind e = pick-false _ _ _ e

pub capdu_size_lem : (o : Operation) → capdu_size o ≡ compact_size o + length (le_of o.kind)
unfolding capdu_size
capdu_size_lem o =
    ⊎_elim
    (λ e. pick_true _ _ _ e ∙ rw (le_there o.kind e))
    (λ e. pick-false _ _ _ e ∙ rw (le_none o.kind e) (sym (add-zero (compact_size o))))
    (either (has_le o.kind))

capdu_parts : (d : List ℕ) (o : Operation) → compact_of d o ++ le_of o.kind ≡ capdu_of d o
unfolding compact_of capdu_of
capdu_parts d o = append_assoc (header_of o) (bytes_of d o) (le_of o.kind)

module _ (d : List ℕ) (o : Operation) (carried : Carried (length d) o) where
  capdu-length : length (capdu_of d o) ≡ capdu_size o
  capdu-length =
      let l = compact-length d o carried in
      ap length (sym (capdu_parts d o)) ∙ length-append (compact_of d o) (le_of o.kind) ∙ omega (arith, capdu_size_lem o)

  tlv_length : length (tlv_of (capdu_of d o)) ≡ tlv_size (capdu_size o)
  unfolding tlv_of tlv_size
  tlv_length = rw capdu-length (omega (arith, capdu-length, length-append (length_bytes (capdu_size o)) (capdu_of d o)))

  pub written-length : (format : ℕ) → length (written_as format d o) ≡ written_size format o
  unfolding written_as written_size
  written-length format =
      ⊎_elim
      (λ e. ap length (pick_true _ _ _ e) ∙ compact-length d o carried ∙ sym (pick_true _ _ _ e))
      (λ e. ap length (pick-false _ _ _ e) ∙ tlv_length ∙ sym (pick-false _ _ _ e))
      (either (eqb format 0))

-- all operations of a list that is carried, and their script
pub all-length : (format n : ℕ) (d : List ℕ) (os : List Operation) → first_not_carried format (length d) (n + 1) os ≡ 0
    → length (all_written format d os) ≡ all_size format os
unfolding all_written all_size
all-length format n d [] h = refl
all-length format n d (o ∷ os) h =
    let first = written-length d o (first-carried format (length d) n o os h) format in
    let others = all-length format (n + 1) d os (others-carried format (length d) n o os h) in
    length-append (written_as format d o) (all_written format d os) ∙ rw (first, others)

pub script-length : (format : ℕ) (d : List ℕ) (os : List Operation) → first_not_carried format (length d) 1 os ≡ 0
    → length (script_of format d os) ≡ script_size format (all_size format os)
unfolding script_of script_size templated tlv_size
script-length format d os h =
    let l = all-length format 0 d os h in
    ⊎_elim
    (λ e. ap length (pick_true _ _ _ e) ∙ l ∙ sym (pick_true _ _ _ e))
    (λ e.
    let both = length-append (length_bytes (all_size format os)) (all_written format d os) in
    ap length (pick-false _ _ _ e) ∙ rw l (omega arith) ∙ sym (pick-false _ _ _ e))
    (either (eqb format 0))

-- a tag, a length and a value, one behind the other
pub tagged : (tag n at : ℕ) (m v : List ℕ) {w₁ w₂ w₃ : List ℕ} {from : ℕ}
    → w₁ ≡ overwrite m at (tag ∷ []) → w₂ ≡ overwrite w₁ (at + 1) (length_bytes n)
    → from ≡ at + 1 + length (length_bytes n) → w₃ ≡ overwrite w₂ from v
    → at + (1 + length (length_bytes n) + length v) ≤ length m → w₃ ≡ overwrite m at (tag ∷ (length_bytes n ++ v))
tagged tag n at m v h1 h2 f h3 fits =
    let e2 = after m at (tag ∷ []) (length_bytes n) h1 refl h2 (omega arith) in
    after m at (tag ∷ length_bytes n) v e2 (omega arith) h3 (omega arith)

-- the TLV of a C-APDU: tag, length, command and Le
module _ (m d : List ℕ) (at : ℕ) (o : Operation) (carried : Carried (length d) o) (fits : at + tlv_size (capdu_size o) ≤ length m)
    {w₁ w₂ w₃ w₄ le : List ℕ} {n from end : ℕ} where
  pub capdu-written : le_of o.kind ≡ le
      → w₁ ≡ overwrite m at (0x22 ∷ []) → n ≡ capdu_size o → w₂ ≡ overwrite w₁ (at + 1) (length_bytes n)
      → from ≡ at + 1 + length (length_bytes n)
      → w₃ ≡ overwrite w₂ from (compact_of d o) → end ≡ from + compact_size o → w₄ ≡ overwrite w₃ end le
      → (w₄ ≡ overwrite m at (tlv_of (capdu_of d o))) × (end + length le ≡ at + tlv_size (capdu_size o))
  unfolding tlv_of tlv_size
  capdu-written is tag counted sized begins command ends last =
      let l : List ℕ = length_bytes (capdu_size o) in
      let f : from ≡ at + 1 + length l = rw counted at begins in
      let size = rw is at (capdu_size_lem o) in
      let long = compact-length d o carried in
      let both = length-append l (compact_of d o) in
      let e3 = tagged 0x22 (capdu_size o) at m (compact_of d o) tag (rw counted at sized) f command (omega arith) in
      let e4 = after m at (0x22 ∷ (l ++ compact_of d o)) le e3 (omega arith) last (omega arith) in
      let parts = rw is at (capdu_parts d o) in
      let whole = sym (capdu-length d o carried) in
      ((rw append_assoc at e4) ∙ (λ i. overwrite m at (0x22 ∷ (length_bytes (whole i) ++ parts i))), omega arith)

-- a script: the operations alone, or as the value of a template
module _ (format : ℕ) (d : List ℕ) (os : List Operation) where
  pub compact-script : format ≡ 0 → all_written format d os ≡ script_of format d os
  unfolding script_of
  compact-script e = eq_yes format 0 _ e refl

  pub template-script : (format ≡ 0 → ⊥) → first_not_carried format (length d) 1 os ≡ 0
      → 0xAA ∷ (length_bytes (all_size format os) ++ all_written format d os) ≡ script_of format d os
  unfolding script_of templated
  template-script e h =
      eq_no format 0 _ e (ap (λ (k : ℕ). 0xAA ∷ (length_bytes k ++ all_written format d os)) (sym (all-length format 0 d os h)))

-- how many bytes a script has, by its format
module _ (format n : ℕ) where
  pub compact_size_lem : format ≡ 0 → n ≡ script_size format n
  unfolding script_size
  compact_size_lem e = eq_yes format 0 _ e refl

  pub template-size : (format ≡ 0 → ⊥) → 1 + length (length_bytes n) + n ≡ script_size format n
  unfolding script_size tlv_size
  template-size e = eq_no format 0 _ e refl

-- what the writer of a script is asked for gives it room: for the operations alone, or for their template
module _ {format size : ℕ} {rows d memory : List ℕ} (asks : Writable format size rows d memory) where
  pub compact_room : format ≡ 0 → all_size format (operations_of rows) ≤ length memory
  compact_room e = omega (arith, asks.sized, asks.room, compact_size_lem format size e)

  pub template_room : format ≡ 1
      → (5 ≤ size) × (1 + length (length_bytes size) + size ≤ length memory) × (1 + length (length_bytes size) + size ≤ longest_script)
  template_room e =
      let whole = template-size format size (λ none. omega arith) in
      (omega (arith, asks.sized, size-some format rows asks.list), omega (arith, asks.room, whole), omega (arith, asks.short, whole))

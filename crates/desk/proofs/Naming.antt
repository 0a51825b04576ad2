-- A line and the operation that it names: how long the name is at least, what the line comes to by the kind of operation, and that an
-- operation that it asks for fits. Assumes nothing.
use mathlib.Core.Path.{◌≡◌, sym, ap, ◌∙◌}
use mathlib.Core.Bool.{false}
use mathlib.Core.List.{List}
use Prim.Native.Nat.{ℕ, ◌%◌, ◌≤◌, ◌<◌}
use native.Mathlib.Nat.{le_refl}
use native.Mathlib.Omega.{arith}
use lib.Dec.{eqb}
use lib.ListN.{length, drop}
use Rattle.octets.specs.Choice.{pick}
use Rattle.octets.specs.Bytes.{starts_with}
use Rattle.octets.proofs.Picks.{on_pick, and_right}
use Rattle.std.specs.Prelude.{Option, Some, None, IfSome, option_map}
use Rattle.lines.specs.Digits.{ascii, plain_number, is_hex}
use Rattle.lines.proofs.Hex.{no_digits}
use Rattle.operations.specs.Rows.{select, update, read, update_record, read_record, increase, search, is_read}
use Rattle.desk.specs.declared.fields.Fields.{Fields}
use Rattle.desk.specs.Asking.{with_bytes, with_count, kind_of, which_of, line_of}
use Rattle.desk.specs.Promised.{FieldsLie, LineFits}
use Rattle.desk.proofs.Standing.{name_inside}

-- the signs of the name of a kind, its = among them
unfoldable pub signs : ℕ → ℕ
signs kind =
    pick (eqb kind select) 7
    (pick (eqb kind update) 7
    (pick (eqb kind read) 5
    (pick (eqb kind update_record) 14 (pick (eqb kind read_record) 12 (pick (eqb kind increase) 9 (pick (eqb kind search) 7 0))))))

-- a line of so many signs can name a kind
pub record Named (size kind : ℕ) : Type 0 where
  pub byte : kind < 256
  pub long : signs kind ≤ size

kind-named : (line : List ℕ) → IfSome (kind_of line) (Named (length line))
unfolding kind_of signs pick ascii
kind-named line =
    called (ascii "select=") select _ (omega arith) (omega arith) (omega arith)
    (called (ascii "update=") update _ (omega arith) (omega arith) (omega arith)
    (called (ascii "read=") read _ (omega arith) (omega arith) (omega arith)
    (called (ascii "update-record=") update_record _ (omega arith) (omega arith) (omega arith)
    (called (ascii "read-record=") read_record _ (omega arith) (omega arith) (omega arith)
    (called (ascii "increase=") increase _ (omega arith) (omega arith) (omega arith)
    (called (ascii "search=") search None (omega arith) (omega arith) (omega arith) tt))))))
  where
    called : (name : List ℕ) (kind : ℕ) (rest : Option ℕ) → 1 ≤ length name → kind < 256 → signs kind ≤ length name → IfSome rest (Named (length line)) → IfSome (pick (starts_with line name) (Some kind) rest) (Named (length line))
    called name kind rest some small long others = on_pick (λ (k : Option ℕ). IfSome k (Named (length line))) (starts_with line name) (Some kind) rest (λ e. record { byte = small; long = omega (arith, name_inside line 0 name e some) }) (λ _. others)

pub named : (line : List ℕ) (k : ℕ) {kind : ℕ} → Some kind ≡ kind_of line → kind ≡ k → Named (length line) k
named line k is e = rw e at (rw (sym is) at (kind-named line))

-- the fields of a line whose kind is known
pub which_known : (line : List ℕ) (k : ℕ) {kind : ℕ} {f : Option Fields} → kind ≡ k → f ≡ which_of k line → f ≡ which_of kind line
which_known line k e h = h ∙ ap (λ (x : ℕ). which_of x line) (sym e)

-- what a line comes to that brings bytes
pub line_brings : (line : List ℕ) {kind : ℕ} {f : Fields} → kind_of line ≡ Some kind → which_of kind line ≡ Some f → is_read kind ≡ false → with_bytes kind line f ≡ line_of line
unfolding line_of pick
line_brings line is reads brings = rw (is, reads, brings)

-- an operation that a line asks for fits
module _ (line : List ℕ) (kind : ℕ) (f : Fields) (byte : kind < 256) (lies : FieldsLie 7 (length line) f) where
  pub bytes_fit : LineFits line (with_bytes kind line f)
  unfolding with_bytes
  bytes_fit =
      on_pick (LineFits line) (is_hex (drop f.at line)) _ None
      (λ hex. record { kind = byte; mode = lies.byte; inside = lies.inside; hex = and_right (eqb (length (drop f.at line) % 2) 0) _ hex; named = omega (arith, lies.behind, lies.inside) })
      (λ _. tt)

  wants_fit : (c : Option ℕ) → LineFits line (option_map (λ count. record { kind = kind; mode = f.mode; number = f.number; count = count; from = length line }) c)
  wants_fit (Some count) = record { kind = byte; mode = lies.byte; inside = le_refl (length line); hex = no_digits line; named = omega (arith, lies.behind, lies.inside) }
  wants_fit None = tt

  pub count_fits : LineFits line (with_count kind line f)
  unfolding with_count
  count_fits = wants_fit (plain_number (drop f.at line))

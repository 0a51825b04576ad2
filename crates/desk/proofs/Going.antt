-- A list of operations, read line by line: what is left from a line on, behind the rows and the data that were read, is the whole list.
-- A line that asks for an operation takes 8 signs at least with its line feed, so its row finds room, and two signs for each byte, so
-- its bytes do (`Going`). A round puts the row and the bytes behind those that were read (`goes_on_lem`); a line that is not as asked ends
-- the list (`fails`), and so does the end of the text (`ends`). Assumes nothing.
use mathlib.Core.Path.{◌≡◌, refl, sym, ap, ◌∙◌}
use mathlib.Core.List.{List, [], ◌++◌}
use Prim.Native.Nat.{ℕ, zero, suc, ◌+◌, ◌-◌, ◌*◌, ◌≤◌, ◌<◌}
use native.Mathlib.Nat.{add-zero}
use native.Mathlib.Numerals.{add-one}
use native.Mathlib.Omega.{arith}
use lib.ListN.{length, take, drop, length-drop}
use lib.Seq.{length-take-le}
use borrow.Author.Tests.{lt-ltb, le-ltb}
use Rattle.octets.specs.Bytes.{bytes2, part, overwrite}
use Rattle.octets.proofs.Writes.{part_length, write-length, take_through, write_in-part}
use Rattle.lines.specs.Digits.{decoded}
use Rattle.lines.specs.Named.{line_feed}
use Rattle.lines.specs.Values.{value_end}
use Rattle.lines.proofs.Hex.{bytes_length}
use Rattle.operations.specs.Rows.{row_size}
use Rattle.desk.specs.declared.asking.Asking.{Asking}
use Rattle.std.specs.Prelude.{Option, Some, None, Ok, Err}
use Rattle.desk.specs.Asking.{line_of}
use Rattle.desk.specs.Lists.{line_at, row_of, Listed, list_from, most_text}
use Rattle.desk.specs.Promised.{AskingFits, LineFits, room_for_rows, room_for_data}

-- ---- the definition, line by line

module _ (n : ℕ) (text : List ℕ) (at number : ℕ) (rows «data» : List ℕ) where
  list_ends : length text ≤ at → list_from (suc n) text at number rows «data» ≡ Ok (rows, «data»)
  unfolding list_from
  list_ends h = rw (le-ltb at (length text) h, list_from)

  list-fails : at < length text → line_of (line_at text at) ≡ None → list_from (suc n) text at number rows «data» ≡ Err number
  unfolding list_from
  list-fails h e = rw (lt-ltb at (length text) h, list_from, e)

  list-goes_on : (a : Asking) → at < length text → line_of (line_at text at) ≡ Some a
      → list_from (suc n) text at number rows «data» ≡ list_from n text (value_end line_feed text at + 1) (number + 1) (rows ++ row_of a (length «data»)) («data» ++ decoded (drop a.from (line_at text at)))
  unfolding list_from
  list-goes_on a h e = rw (lt-ltb at (length text) h, list_from, e)

-- what is left from a line on, behind rows and data, is the whole; there are at most so many lines
pub record Left (text : List ℕ) (whole : Listed) (at number : ℕ) (rows «data» : List ℕ) : Type 0 where
  pub lines : ℕ
  pub enough : length text ≤ at + lines
  pub rest : list_from (suc lines) text at number rows «data» ≡ whole

left-goes_on : (text : List ℕ) (whole : Listed) (at number : ℕ) (rows «data» : List ℕ) (a : Asking) (lines : ℕ) → at < length text → length text ≤ at + lines → line_of (line_at text at) ≡ Some a
    → list_from (suc lines) text at number rows «data» ≡ whole
    → Left text whole (value_end line_feed text at + 1) (number + 1) (rows ++ row_of a (length «data»)) («data» ++ decoded (drop a.from (line_at text at)))
unfolding value_end
left-goes_on text whole at number rows «data» a zero inside enough e rest = absurd (omega arith)
left-goes_on text whole at number rows «data» a (suc n) inside enough e rest =
    record { lines = n; enough = omega arith; rest = sym (list-goes_on (suc n) text at number rows «data» a inside e) ∙ rest }

-- ---- the loop

-- the list on its way: `size` bytes of rows and `held` bytes of data were put at the starts of two memories
pub record Going (text : List ℕ) (whole : Listed) (rows «data» : List ℕ) (at number size held : ℕ) : Type 0 where
  pub left : Left text whole at number (take size rows) (take held «data»)
  pub place : at ≤ length text + 1
  pub row : size ≤ at
  pub byte : 2 * held ≤ at
  pub line : number ≤ at + 2
  pub rows_room : length rows ≡ room_for_rows
  pub data_room : length «data» ≡ room_for_data

pub begins : (text rows «data» : List ℕ) (first : ℕ) → first ≤ length text + 1 → length rows ≡ room_for_rows → length «data» ≡ room_for_data
    → Going text (list_from (length text + 1) text first 2 [] []) rows «data» first 2 0 0
begins text rows «data» first place r d =
    record {
      left = record { lines = length text; enough = omega arith; rest = rw add-one };
      place = place;
      row = omega arith;
      byte = omega arith;
      line = omega arith;
      rows_room = r;
      data_room = d;
    }

row-length : (a : Asking) (from : ℕ) → length (row_of a from) ≡ row_size
unfolding row_of bytes2
row-length a from = refl

-- the line at a place ends at the place `end`, and asks for an operation
pub record Asked (text : List ℕ) (at end : ℕ) (a : Asking) : Type 0 where
  pub short : length text ≤ most_text + 1
  pub inside : at < length text
  pub is : end ≡ value_end line_feed text at
  pub order : at ≤ end
  pub last : end ≤ length text
  pub asks : line_of (part text at (end - at)) ≡ Some a
  pub fits : AskingFits (part text at (end - at)) a

pub asked : {text : List ℕ} {at end : ℕ} {a : Asking} {o : Option Asking} → length text ≤ most_text + 1 → at < length text
    → (end ≡ value_end line_feed text at) × (at ≤ end) × (end ≤ length text)
    → (o ≡ line_of (part text at (end - at))) × LineFits (part text at (end - at)) o → o ≡ Some a → Asked text at end a
asked short inside ends is e =
    record {
      short = short;
      inside = inside;
      is = ends.0;
      order = ends.1;
      last = ends.2;
      asks = sym is.0 ∙ e;
      fits = rw e at is.1;
    }

-- the digits of its bytes
module _ {text : List ℕ} {at end : ℕ} {a : Asking} (q : Asked text at end a) where
  abbrev digits : List ℕ
  digits = drop a.from (part text at (end - at))

  long : length (part text at (end - at)) ≡ end - at
  long = part_length text at (end - at) (omega (arith, q.order, q.last))

  digits_length : length digits ≡ end - (at + a.from)
  digits_length = simp length-drop (omega (arith, long))

  pub bytes_few : 2 * length (decoded digits) ≤ end - at
  bytes_few = omega (arith, bytes_length digits, digits_length)

module _ {text : List ℕ} {whole : Listed} {rows «data» : List ℕ} {at number size held : ℕ} (g : Going text whole rows «data» at number size held) where
  pub ends : length text ≤ at → Ok (take size rows, take held «data») ≡ whole
  ends h = sym (list_ends _ text at number _ _ h) ∙ g.left.rest

  pub fails : at < length text → {end : ℕ} → end ≡ value_end line_feed text at → line_of (part text at (end - at)) ≡ None → Err number ≡ whole
  fails inside is e = sym (list-fails _ text at number _ _ inside (rw is at e)) ∙ g.left.rest

  module _ {end : ℕ} {a : Asking} (q : Asked text at end a) where
    pub row_fits : size + row_size ≤ length rows
    row_fits = omega (arith, g.row, g.rows_room, q.inside, q.short)

    pub held_inside : held ≤ length «data»
    held_inside = omega (arith, g.byte, g.data_room, q.inside, q.short)

    room : held + length (decoded (digits q)) ≤ length «data»
    room = omega (arith, bytes_few q, g.byte, g.data_room, q.last, q.short, q.order)

    -- its row and its bytes are put
    module _ {rows₁ ys : List ℕ} {k : ℕ} (row_put : rows₁ ≡ overwrite rows size (row_of a held))
        (bytes-put : ys ≡ overwrite (part «data» held (length «data» - held)) 0 (decoded (digits q))) (count : k ≡ length (decoded (digits q))) where
      rows_are : take (size + row_size) rows₁ ≡ take size rows ++ row_of a (length (take held «data»))
      rows_are =
          ap (take (size + row_size)) row_put
          ∙ ap (λ (n : ℕ). take (size + n) (overwrite rows size (row_of a held))) (sym (row-length a held))
          ∙ take_through rows size (row_of a held) (omega (arith, row-length a held, row_fits))
          ∙ ap (λ (n : ℕ). take size rows ++ row_of a n) (sym (length-take-le held «data» held_inside))

      abbrev data₁ : List ℕ
      data₁ = take held «data» ++ (ys ++ drop (length «data» - held) (drop held «data»))

      data_put : data₁ ≡ overwrite «data» held (decoded (digits q))
      data_put =
          write_in-part «data» held (length «data» - held) 0 (decoded (digits q)) bytes-put (omega (arith, held_inside)) (omega (arith, room))
          ∙ ap (λ (p : ℕ). overwrite «data» p (decoded (digits q))) (add-zero held)

      data_are : take (held + k) data₁ ≡ take held «data» ++ decoded (drop a.from (line_at text at))
      data_are =
          (λ i. take (held + count i) (data_put i))
          ∙ take_through «data» held (decoded (digits q)) room
          ∙ ap (λ (d : List ℕ). take held «data» ++ decoded d) (ap (λ (e : ℕ). drop a.from (part text at (e - at))) q.is)

      rest-left : Left text whole (end + 1) (number + 1) (take (size + row_size) rows₁) (take (held + k) data₁)
      rest-left =
          rw (q.is, rows_are, data_are)
          (left-goes_on text whole at number (take size rows) (take held «data») a g.left.lines q.inside g.left.enough (rw q.is at q.asks) g.left.rest)

      pub goes_on_lem : Going text whole rows₁ data₁ (end + 1) (number + 1) (size + row_size) (held + k)
      goes_on_lem =
          record {
            left = rest-left;
            place = omega (arith, q.last);
            row = omega (arith, long q, q.fits.named, g.row);
            byte = omega (arith, bytes_few q, count, g.byte, q.order);
            line = omega (arith, g.line, q.order);
            rows_room = ap length row_put ∙ write-length rows size (row_of a held) (omega (arith, row-length a held, row_fits)) ∙ g.rows_room;
            data_room = ap length data_put ∙ write-length «data» held (decoded (digits q)) room ∙ g.data_room;
          }

-- The printing of results between two results: what is printed, with the lines of the results that are left behind it, is the whole.
-- The definition `told_from` counts its results down, and the code loops. `Showing` says that for some count which is enough for the
-- bytes that are left, the lines up to here and the lines of the results from here on are those of all results. A result lies further
-- on than its place, so the count stays enough and the bytes left are fewer (`shows`, `less`); a printing that does not go on is the
-- whole (`ends`). Assumes nothing.
use mathlib.Core.Path.{◌≡◌, refl, sym, ap, ◌∙◌}
use mathlib.Core.Bool.{true}
use mathlib.Core.List.{List, [], ◌++◌, append_assoc, append-nil}
use Prim.Native.Nat.{ℕ, zero, suc, ◌+◌, ◌-◌, ◌*◌, ◌≤◌, ◌<◌}
use native.Mathlib.Omega.{arith}
use lib.Dec.{ltb, eqb}
use lib.ListN.{length, length-append}
use Rattle.std.specs.Prelude.{Option, Some, None, Result, Ok, Err}
use Rattle.octets.specs.Bytes.{AllBytes, overwrite, part, bytes2}
use Rattle.octets.proofs.Picks.{on_pick}
use Rattle.octets.proofs.Writes.{part_length, write-length, write-none}
use Rattle.answers.specs.declared.results.Piece.{Piece}
use Rattle.answers.specs.declared.results.Piece.TheVariants as results
use Rattle.answers.specs.Results.{compact_told, compact_word, compact_at, result_at}
use Rattle.answers.specs.Told.{replied, told_from}
use Rattle.answers.specs.Promised.{ToldFits}
use Rattle.answers.proofs.Places.{past_bad}
use Rattle.answers.proofs.Fits.{told-fits}
use Rattle.lines.specs.Digits.{ascii, hex_of}
use Rattle.lines.specs.Named.{named}
use Rattle.lines.proofs.Hex.{hex_length}
use Rattle.lines.proofs.Written.{Put, put, behind}
use Rattle.desk.specs.declared.reads.Shown.{Shown}
use Rattle.desk.specs.Promised.{longest_answer, most_told, ShownFits}
use Rattle.std.specs.Prelude.{Option, Some, None, IfSome}
use Rattle.std.specs.Option.{option_map_or}
use Rattle.desk.specs.Reads.{reply_lines, all_lines, shown_lines, shown, shown_next}

-- ---- past the end of the answer no code stands

unfoldable NoCode : Option Piece → Type 0
NoCode (Some (results.Result word from count)) = Unit
NoCode (Some (results.BadFormat code place)) = ⊥
NoCode None = Unit

compact_no_code : (end : ℕ) (w : Result ℕ ℕ) → NoCode (compact_told end w)
unfolding NoCode compact_told
compact_no_code end (Ok word) = on_pick NoCode _ _ _ (λ fit. tt) (λ other. tt)
compact_no_code end (Err place) = tt

past_no_code : (format : ℕ) (answer : List ℕ) (at end : ℕ) → length answer ≤ at → NoCode (result_at format answer at end)
unfolding NoCode result_at compact_at
past_no_code format answer at end past =
    on_pick NoCode (ltb (length answer) end) _ _ (λ outside. tt)
    (λ inside. on_pick NoCode (eqb format 0) _ _
    (λ compact. on_pick NoCode (eqb at compact_word) _ _ (λ here. compact_no_code end _) (λ other. tt))
    (λ other. on_pick NoCode (eqb format 1) _ _ (λ expanded. rw (past_bad answer at true end past) tt) (λ none. tt)))

past-code : (format : ℕ) (answer : List ℕ) (at end code place : ℕ) → length answer ≤ at → result_at format answer at end ≡ Some (results.BadFormat code place) → ⊥
unfolding NoCode
past-code format answer at end code place past is = rw is at (past_no_code format answer at end past)

-- ---- how many signs the lines of a result have

reply_length : (word : ℕ) (d : List ℕ) → length (reply_lines (replied word d)) ≡ 2 * length d + 18
unfolding reply_lines named ascii bytes2 hex_of
reply_length word d = simp (length-append, hex_length) (omega arith)

shown_to :
    (answer : List ℕ) (at to : ℕ) (t : Option Piece) → ToldFits (length answer) at t
    → (shown_next t to).to ≡ to + length (shown_lines t answer)
unfolding ToldFits shown_lines shown_next reply_lines named ascii hex_of
shown_to answer at to (Some (results.Result word from count)) fits =
    omega (arith, reply_length word (part answer from count), part_length answer from count fits.inside)
shown_to answer at to (Some (results.BadFormat code there)) fits = refl
shown_to answer at to None fits = omega arith

-- ---- a printing on its way

-- how far a printing is: no more is printed than may be, and, where it goes on, its place is at most two bytes behind the answer, and no more
-- is printed than five signs for each byte before it
pub record Bounded (size : ℕ) (s : Shown) : Type 0 where
  pub few : s.to ≤ most_told
  pub placed : IfSome s.next (λ place. (place ≤ size + 2) × (s.to ≤ 27 + 5 * place))

-- how many bytes a printing that goes on may still pass
abbrev pub left : ℕ → Option ℕ → ℕ
left size next = option_map_or (λ place. size + 3 - place) next 0

module _ (size place to : ℕ) (placed : place ≤ size + 2) where
  bounded : (t : Option Piece) → size ≤ longest_answer → to ≤ 27 + 5 * place → ToldFits size place t → Bounded size (shown_next t to)
  unfolding ToldFits shown_next
  bounded (Some (results.Result word from count)) short printed fits =
      record { few = omega (arith, fits.further, fits.inside); placed = (omega (arith, fits.inside), omega (arith, fits.further)) }
  bounded (Some (results.BadFormat code there)) short printed fits = record { few = omega arith; placed = tt }
  bounded None short printed fits = record { few = omega arith; placed = tt }

  fewer : (t : Option Piece) → ToldFits size place t → left size (shown_next t to).next < size + 3 - place
  unfolding ToldFits shown_next
  fewer (Some (results.Result word from count)) fits = omega (arith, fits.further)
  fewer (Some (results.BadFormat code there)) fits = omega arith
  fewer None fits = omega arith

-- the lines of the results that are left, of which there are `n` at most
abbrev left_lines : ℕ → ℕ → List ℕ → ℕ → Option ℕ → List ℕ
left_lines n format answer end next = option_map_or (λ place. all_lines (told_from n format answer place end)) next []

-- the lines of a result, and of those behind it
behind_it :
    (format : ℕ) (answer : List ℕ) (end n place to : ℕ) (t : Option Piece) → result_at format answer place end ≡ t
    → ToldFits (length answer) place t → length answer ≤ place + n
    → (m : ℕ) × IfSome (shown_next t to).next (λ p. length answer ≤ p + m)
    × (shown_lines t answer ++ left_lines m format answer end (shown_next t to).next ≡ all_lines (told_from n format answer place end))
unfolding ToldFits shown_lines shown_next all_lines told_from
behind_it format answer end zero place to (Some (results.Result word from count)) is fits enough = absurd (omega (arith, fits.further, fits.inside))
behind_it format answer end zero place to (Some (results.BadFormat code there)) is fits enough =
    absurd (past-code format answer place end code there (omega arith) is)
behind_it format answer end zero place to None is fits enough = (0, tt, refl)
behind_it format answer end (suc m) place to (Some (results.Result word from count)) is fits enough = (m, omega (arith, fits.further), rw (is, all_lines))
behind_it format answer end (suc m) place to (Some (results.BadFormat code there)) is fits enough = (m, tt, rw (is, all_lines))
behind_it format answer end (suc m) place to None is fits enough = (m, tt, rw (is, all_lines))

-- where a printing is, what was printed of the whole, and what is left of it, with a count that is large enough
pub record Showing (format : ℕ) (answer : List ℕ) (end : ℕ) (whole out₀ : List ℕ) (to : ℕ) (out : List ℕ) (s : Shown) : Type 0 where
  pub short : length answer ≤ longest_answer
  pub room : most_told ≤ length out₀
  pub bounds : Bounded (length answer) s
  pub lines : List ℕ
  pub printed : Put out₀ to lines out s.to
  pub fuel : ℕ
  pub enough : IfSome s.next (λ place. length answer ≤ place + fuel)
  pub same : lines ++ left_lines fuel format answer end s.next ≡ whole

pub begins :
    (format : ℕ) (answer : List ℕ) (end : ℕ) (out : List ℕ) (place to : ℕ) → ShownFits answer out place to
    → Showing format answer end (all_lines (told_from (length answer) format answer place end)) out to out (shown (Some place) to)
begins format answer end out place to fits =
    let placed = fits.placed in
    let printed = fits.printed in
    let short = fits.short in
    record {
      short = short;
      room = fits.room;
      bounds = record { few = omega arith; placed = (placed, printed) };
      lines = [];
      printed = put (sym (write-none out to)) (omega arith);
      fuel = length answer;
      enough = omega arith;
      same = refl;
    }

module _ {format : ℕ} {answer : List ℕ} {end : ℕ} {whole out₀ : List ℕ} {to : ℕ} {out : List ℕ} {s : Shown}
    (g : Showing format answer end whole out₀ to out s) where
  pub kept : length out ≡ length out₀
  kept =
      let few = g.bounds.few in
      let room = g.room in
      let place = g.printed.place in
      ap length (g.printed.memory (omega arith)) ∙ write-length out₀ to g.lines (omega arith)

  pub ends : s.next ≡ None → Put out₀ to whole out s.to
  ends off =
      let all : g.lines ≡ whole = sym (append-nil g.lines) ∙ rw off at g.same in
      rw all at g.printed

  module _ {place : ℕ} (on : s.next ≡ Some place) where
    pub asked : ShownFits answer out place s.to
    asked =
        let placed = rw on at g.bounds.placed in
        record { short = g.short; placed = placed.0; printed = placed.1; room = omega (arith, g.room, kept) }

    module _ (bytes : AllBytes answer) {next : Shown} (is : next ≡ shown_next (result_at format answer place end) s.to) where
      pub shows :
          {out' : List ℕ} → out' ≡ overwrite out s.to (shown_lines (result_at format answer place end) answer)
          → Showing format answer end whole out₀ to out' next
      shows written =
          let t = result_at format answer place end in
          let fits = told-fits answer bytes format place end in
          let placed = rw on at g.bounds.placed in
          let rest = behind_it format answer end g.fuel place s.to t refl fits (rw on at g.enough) in
          let all = rw on at g.same in
          rw is
          (record {
            short = g.short;
            room = g.room;
            bounds = bounded (length answer) place s.to placed.0 t g.short placed.1 fits;
            lines = g.lines ++ shown_lines t answer;
            printed = behind g.printed (put written (shown_to answer place s.to t fits));
            fuel = rest.0;
            enough = rest.1;
            same = append_assoc g.lines (shown_lines t answer) _ ∙ ap (λ (l : List ℕ). g.lines ++ l) rest.2 ∙ all;
          })

      pub less : left (length answer) next.next < left (length answer) s.next
      less =
          rw (is, on)
          (fewer (length answer) place s.to (rw on at g.bounds.placed).0 (result_at format answer place end) (told-fits answer bytes format place end))

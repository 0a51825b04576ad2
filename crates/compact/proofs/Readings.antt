-- Which reading stands at a place of a script, by how many bytes are left, and that it fits. Assumes nothing.
use mathlib.Core.Path.{◌≡◌, ◌∙◌}
use mathlib.Core.List.{List}
use Prim.Native.Nat.{ℕ, ◌+◌, ◌≤◌, ◌<◌}
use native.Mathlib.Omega.{arith}
use lib.ListN.{length}
use borrow.Author.Tests.{leb-true}
use Rattle.octets.specs.Bytes.{byte, AllBytes}
use Rattle.octets.proofs.Picks.{le_yes, le_no, on_pick}
use Rattle.command.specs.declared.Reading.{Reading}
use Rattle.compact.specs.Compact.{data_behind, broken, whole_at, headed_at, read_at, place_after}
use Rattle.compact.specs.Promised.{ReadingFits}

module _ (script : List ℕ) (at : ℕ) {r : Reading} where
  pub no_header : length script < at + 5 → r ≡ broken script → r ≡ read_at script at
  unfolding read_at
  no_header h e = le_no (at + 5) (length script) (headed_at script at) h e

  pub broken-fits : at < length script → r ≡ broken script → ReadingFits script at r
  unfolding broken place_after
  broken-fits h e =
      rw e
      (record {
        inside = omega arith;
        further = omega arith;
        bytes = record { p1 = omega arith; p2 = omega arith; p3 = omega arith; brief = omega arith };
      })

-- a header that is there, with the data that its instruction and its P3 ask for
module _ (script : List ℕ) (at : ℕ) {i p3 size : ℕ} (ins : i ≡ byte script (at + 1)) (third : p3 ≡ byte script (at + 4)) (asked : size ≡ data_behind i p3) (headed : at + 5 ≤ length script) where
  behind : size ≡ data_behind (byte script (at + 1)) (byte script (at + 4))
  behind = asked ∙ (λ k. data_behind (ins k) (third k))

  pub no_data_lem : {r : Reading} → length script < at + 5 + size → r ≡ broken script → r ≡ read_at script at
  unfolding read_at headed_at
  no_data_lem h e = le_yes (at + 5) (length script) (broken script) headed (le_no _ _ _ (rw behind at h) e)

  pub whole : {r : Reading} → at + 5 + size ≤ length script → r ≡ whole_at script at i size → r ≡ read_at script at
  unfolding read_at headed_at
  whole h e =
      le_yes (at + 5) (length script) (broken script) headed
      (le_yes _ _ _ (rw behind at h) (e ∙ (λ k. whole_at script at (ins k) (behind k))))

pub whole-fits : (script : List ℕ) (at i size : ℕ) {r : Reading} → r ≡ whole_at script at i size → at + 5 + size ≤ length script → size < 256 → AllBytes script → ReadingFits script at r
unfolding whole_at place_after
whole-fits script at i size e h few bytes =
    rw e
    (record {
      inside = h;
      further = omega arith;
      bytes = record { p1 = bytes (at + 2); p2 = bytes (at + 3); p3 = bytes (at + 4); brief = few };
    })

-- what holds of a command with too few bytes, and of a whole one where it has them, holds of the one at a place
pub on_reading : (P : Reading → Type 0) (script : List ℕ) (at : ℕ) → P (broken script)
    → (let size = data_behind (byte script (at + 1)) (byte script (at + 4)) in at + 5 + size ≤ length script → P (whole_at script at (byte script (at + 1)) size))
    → P (read_at script at)
unfolding read_at headed_at
on_reading P script at few all = on_pick P _ _ _ (λ y. on_pick P _ _ _ (λ z. all (leb-true _ _ z)) (λ n. few)) (λ n. few)

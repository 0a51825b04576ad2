-- The command that is read behind a prefix is the one that is read without it, so many bytes further on. Assumes nothing.
use mathlib.Core.Path.{◌≡◌}
use mathlib.Core.List.{List, ◌++◌}
use Prim.Native.Nat.{ℕ, ◌+◌}
use native.Mathlib.Nat.{add_assoc}
use native.Mathlib.Omega.{arith}
use lib.ListN.{length, length-append}
use Rattle.octets.specs.Bytes.{byte}
use Rattle.tlv.proofs.Behind.{le_shift, lt_shift, over_pick, byte-behind, byte_at}
use Rattle.command.specs.declared.Reading.{Reading}
use Rattle.compact.specs.Compact.{data_behind, broken, whole_at, headed_at, read_at}

-- a command that was read, so many bytes further on
unfoldable pub moved : ℕ → Reading → Reading
moved k r = record { command = r.command; from = k + r.from; size = r.size }

module _ (pre s : List ℕ) where
  abbrev k : ℕ
  k = length pre

  broken-behind : broken (pre ++ s) ≡ moved k (broken s)
  unfolding broken moved
  broken-behind = rw (length-append pre s)

  whole-behind : (at i size : ℕ) → whole_at (pre ++ s) (k + at) i size ≡ moved k (whole_at s at i size)
  unfolding whole_at moved
  whole-behind at i size =
      rw (byte_at pre s at, byte-behind pre s at 2, byte-behind pre s at 3, byte-behind pre s at 4, lt_shift k (at + 5 + size) (length s) {a' = k + at + 5 + size} (omega arith) (length-append pre s), add_assoc k at 5)

  headed_behind : (at : ℕ) → headed_at (pre ++ s) (k + at) ≡ moved k (headed_at s at)
  unfolding headed_at
  headed_behind at =
      let size = data_behind (byte s (at + 1)) (byte s (at + 4)) in
      rw (byte-behind pre s at 1, byte-behind pre s at 4)
      (over_pick (moved k) _ (le_shift k (at + 5 + size) (length s) (omega arith) (length-append pre s)) (whole-behind at (byte s (at + 1)) size) broken-behind)

  pub read_behind : (at : ℕ) → read_at (pre ++ s) (k + at) ≡ moved k (read_at s at)
  unfolding read_at
  read_behind at = over_pick (moved k) _ (le_shift k (at + 5) (length s) (omega arith) (length-append pre s)) (headed_behind at) broken-behind

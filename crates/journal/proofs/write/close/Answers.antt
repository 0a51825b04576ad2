-- `journal::write::close` meets its contract: tail and head, written one after the other. Assumes nothing.
use mathlib.Core.Path.{◌≡◌, ap}
use mathlib.Core.List.{List}
use Prim.Native.Nat.{ℕ}
use Rattle.octets.specs.Bytes.{overwrite}
use Rattle.journal.specs.declared.Head.{Head}
use Rattle.journal.specs.Entries.{head_bytes}
use Rattle.journal.specs.Changes.{head_after}
use Rattle.journal.proofs.write.close.Goals as goal

two-writes : (j d : List ℕ) (at : ℕ) (h : Head) {n m : ℕ} {j₁ j₂ bs : List ℕ} → bs ≡ d → m ≡ n → j₁ ≡ overwrite j at bs → j₂ ≡ overwrite j₁ 0 (head_bytes (head_after h m)) → j₂ ≡ overwrite (overwrite j at d) 0 (head_bytes (head_after h n))
two-writes j d at h e takes first second = rw (second, first, e, takes)

pub returns : goal.returns
unfolding head_bytes
returns c =
    let h = c.args.head in
    let takes = c.entry_bytes.ensures in
    (two-writes _ _ _ h c.tail_bytes-tail.ensures takes c.copy.ensures c.put_head.ensures, ap (head_after h) takes)

-- `card::tree::root_of` meets its contract. The measure is the entry's number. Assumes nothing.
use mathlib.Core.Path.{◌≡◌}
use mathlib.Core.Bool.{false}
use mathlib.Core.List.{List}
use Prim.Native.Nat.{ℕ, ◌<◌}
use native.Mathlib.Omega.{arith}
use Rattle.card.specs.declared.Row.{Row}
use Rattle.card.specs.Row.{entries, row_of}
use Rattle.card.specs.Tree.{is_root}
use Rattle.card.specs.Promised.{ParentsSmaller}
use Rattle.card.proofs.Kin.{root-here, root-above}
use Rattle.card.proofs.tree.+root_of.Goals as goal

above : (t : List ℕ) (e : ℕ) (r : Row) → ParentsSmaller t → e < entries t → r ≡ row_of t e → is_root r ≡ false → r.parent < e
above t e r small h x other = rw x (small e h (rw (← x) other))

pub returns-then-r : goal.returns-then-r
returns-then-r t c = (omega arith, λ n h. root-here n c.args.table.now c.args.e (rw c.row_at-r.ensures.0 at c.if-r.true))

pub returns : goal.returns
returns t c =
    let r = c.row_at-r in
    let h : r.result.parent < c.args.e = above _ _ _ c.requires.1 c.requires.0 r.ensures.0 c.if-r.false in
    (omega arith, λ n l. root-above n c.args.table.now c.args.e _ (rw r.ensures.0 at c.if-r.false) (rw r.ensures.0 at h) l (rw r.ensures.0 at c.root_of.ensures.1))

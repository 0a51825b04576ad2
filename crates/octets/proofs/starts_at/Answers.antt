-- `octets::starts_at` meets its contract: another first byte tells, and else the others do. The loop's invariant: what is left of the
-- run from i on tells what all of it does. Assumes nothing.
use mathlib.Core.Path.{◌∙◌}
use Prim.Native.Nat.{◌-◌}
use native.Mathlib.Omega.{arith}
use lib.ListN.{length}
use Rattle.octets.proofs.Same.{starts_differs, starts_behind, piece_differs, piece_same, piece_last}
use Rattle.octets.proofs.Picks.{told}
use Rattle.octets.proofs.starts_at.Goals as goal

pub returns-then-m-at : goal.returns-then-m-at
returns-then-m-at g c =
    let a = c.args in
    starts_differs a.m.now a.d.now a.at (omega arith) c.if-m-at.true

pub loop-i-init : goal.loop-i-init
loop-i-init g c =
    let a = c.args in
    (omega arith, starts_behind a.m.now a.d.now a.at (omega arith) (omega arith) c.if-m-at.false)

pub returns-then-not-same_part : goal.returns-then-not-same_part
returns-then-not-same_part g c =
    let a = c.args in
    let l = c.loop-i in
    piece_differs a.m.now a.d.now a.at l.i g.row.WIDTH l.invariant.1 (omega arith) (told c.same_part.ensures c.if-not-same_part.true)

pub loop-i-preserved : goal.loop-i-preserved
loop-i-preserved g c =
    let a = c.args in
    let l = c.loop-i in
    (omega arith, piece_same a.m.now a.d.now a.at l.i g.row.WIDTH l.invariant.1 (omega arith) (told c.same_part.ensures c.if-not-same_part.false))

pub returns : goal.returns
returns g c =
    let a = c.args in
    let l = c.loop-i in
    c.same_part-2.ensures ∙ piece_last a.m.now a.d.now a.at l.i g.row.WIDTH l.invariant.1 (length a.d.now - g.row.WIDTH) (omega arith) (omega arith) (omega arith)

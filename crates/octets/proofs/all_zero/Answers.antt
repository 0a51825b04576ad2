-- `octets::all_zero` meets its contract. The loop's invariant: what was found so far and the bytes that are left tell what all do. Assumes nothing.
use mathlib.Core.Path.{sym, ◌∙◌}
use native.Mathlib.Omega.{arith}
use Rattle.octets.proofs.Same.{zero_more, zero_ends}
use Rattle.octets.proofs.all_zero.Goals as goal

pub loop-b-preserved : goal.loop-b-preserved
loop-b-preserved c =
    let l = c.loop-b in
    l.invariant ∙ zero_more l.zero c.args.m.now l.b-index (omega arith)

pub returns : goal.returns
returns c =
    let l = c.loop-b in
    sym (l.invariant ∙ zero_ends l.zero c.args.m.now l.b-index (omega arith))

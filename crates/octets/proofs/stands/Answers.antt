-- `octets::stands` meets its contract. The loop's invariant: the run stands in the memory just where it stands in what is left from i on. Assumes nothing.
use mathlib.Core.Path.{refl, sym, ◌∙◌}
use native.Mathlib.Omega.{arith}
use lib.ListN.{length-drop}
use Rattle.octets.proofs.Same.{starts-not, contains-found, contains-goes_on, contains_ends}
use Rattle.octets.proofs.stands.Goals as goal

pub loop-i-init : goal.loop-i-init
loop-i-init g c = (omega arith, refl)

pub returns-then-starts_at : goal.returns-then-starts_at
returns-then-starts_at g c =
    let l = c.loop-i in
    contains-found c.args.m.now c.args.d.now l.i l.invariant.1 (sym c.starts_at.ensures ∙ c.if-starts_at.true)

pub loop-i-preserved : goal.loop-i-preserved
loop-i-preserved g c =
    let l = c.loop-i in
    let no = sym c.starts_at.ensures ∙ c.if-starts_at.false in
    (omega (arith, starts-not _ _ no), contains-goes_on c.args.m.now c.args.d.now l.i l.invariant.1 no)

pub returns : goal.returns
returns g c =
    let l = c.loop-i in
    contains_ends c.args.m.now c.args.d.now l.i l.invariant.1 (simp length-drop (omega arith))

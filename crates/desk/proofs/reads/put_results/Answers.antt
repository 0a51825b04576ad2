-- `desk::reads::put_results` meets its contract. The loop's invariant: what is printed, with the lines of the results that are left behind it, is
-- the whole (`Showing`). The measure is how many bytes may still be passed. Assumes nothing.
use native.Mathlib.Omega.{arith}
use Rattle.desk.proofs.Shown.{begins, asked, ends, shows, less}
use Rattle.desk.proofs.reads.put_results.Goals as goal

pub loop-s-init : goal.loop-s-init
loop-s-init c = begins _ _ _ _ _ _ c.requires

pub show_next-s-requires : goal.show_next-s-requires
show_next-s-requires c = asked c.loop-s.invariant c.in-Some.is

pub loop-s-smaller : goal.loop-s-smaller
loop-s-smaller c =
    less c.loop-s.invariant c.in-Some.is (λ i. (c.type_inv.answer i).fits) c.show_next-s.ensures.1

pub loop-s-preserved : goal.loop-s-preserved
loop-s-preserved c =
    shows c.loop-s.invariant c.in-Some.is (λ i. (c.type_inv.answer i).fits) c.show_next-s.ensures.1 c.show_next-s.ensures.0

pub returns : goal.returns
returns c =
    let g = c.loop-s.invariant in
    let p = ends g c.in_default.is in
    (p.memory (omega (arith, g.bounds.few, g.room)), p.place, g.bounds.few)

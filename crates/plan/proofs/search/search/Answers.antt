-- `plan::search::search` meets its contract. The loop's invariant: what is noted, with what is left to search, is what the whole search finds. Assumes nothing.
use mathlib.Core.Path.{◌≡◌}
use Prim.Native.Nat.{◌+◌, ◌-◌}
use native.Mathlib.Omega.{arith}
use Rattle.plan.proofs.Found.{begins, goes_on_lem, ends}
use Rattle.plan.proofs.search.search.Goals as goal

pub loop-init : goal.loop-init
loop-init c = begins c.args.r _ c.args.p2 _ c.args.from _ c.args.out.now c.requires.first c.requires.last (omega (arith, c.requires.file.most)) (omega (arith, c.to_search-left.ensures))

pub record_contains-found-requires : goal.record_contains-found-requires
record_contains-found-requires c = let h = c.loop.invariant.inside (omega arith) in (c.requires.file, h.0, h.1)

pub loop-preserved : goal.loop-preserved
loop-preserved c =
    let next : c.to_search-left.result - (c.loop.counter + 1) ≡ c.to_search-left.result - c.loop.counter - 1 = omega arith in
    rw next (goes_on_lem _ _ _ _ _ _ _ _ _ _ c.loop.invariant _ _ _ _ (omega arith) c.record_contains-found.ensures c.note-n.ensures.0 c.note-n.ensures.1 c.next_searched-number.ensures)

pub returns : goal.returns
returns c = ends _ _ _ _ _ _ _ _ _ _ c.loop.invariant (omega arith)

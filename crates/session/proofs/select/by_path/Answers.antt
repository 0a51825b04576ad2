-- `session::select::by_path` meets its contract. The loop's invariant: what is left of the path finds from e what the whole path finds. Assumes nothing.
use mathlib.Core.Path.{sym, ◌∙◌}
use native.Mathlib.Omega.{arith}
use Rattle.std.specs.Slice.Iter.{chunks_exact_rest}
use Rattle.card.specs.Tree.{child}
use Rattle.session.proofs.Finds.{path_odd, path_fails, path_goes_on, path_even, path_ends}
use Rattle.session.proofs.select.by_path.Goals as goal

pub returns-then-path-ne0 : goal.returns-then-path-ne0
returns-then-path-ne0 c = sym (path_odd c.args.table.now c.args.from c.args.path.now c.if-path-ne0.true)

pub returns-in_err-e : goal.returns-in_err-e
unfolding child
returns-in_err-e c =
    let l = c.loop-identifier in
    let s = c.in-Some.ensures.steps in
    c.from_residual.ensures
    ∙ path_fails c.args.table.now l.e c.in-Some.identifier.now (chunks_exact_rest c.next.new.self) l.invariant.2 s.1.0 (s.1.1 ∙ l.invariant.0) (rw c.num_at.ensures.0 at (sym c.child.ensures ∙ c.in_err-e.was))

pub loop-identifier-preserved : goal.loop-identifier-preserved
unfolding child
loop-identifier-preserved c =
    let l = c.loop-identifier in
    let s = c.in-Some.ensures.steps in
    let two = s.1.1 ∙ l.invariant.0 in (
      s.0 ∙ l.invariant.0,
      path_even c.in-Some.identifier.now (chunks_exact_rest c.next.new.self) s.1.0 two l.invariant.1,
      path_goes_on c.args.table.now l.e c.in-Some.identifier.now (chunks_exact_rest c.next.new.self) l.invariant.2 s.1.0 two _ (rw c.num_at.ensures.0 at (sym c.child.ensures ∙ c.in_ok-e.was)),
    )

pub returns : goal.returns
returns c =
    let l = c.loop-identifier in
    path_ends c.args.table.now l.e (chunks_exact_rest l.identifier-iterator) (omega (arith, c.in-None.ensures.steps.1.0)) l.invariant.1 l.invariant.2

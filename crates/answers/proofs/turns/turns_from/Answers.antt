-- `answers::turns::turns_from` meets its contract. The loop's invariant: what is left from the turn on is the whole reading (`Going`). The
-- measure is how many bytes may still be passed. Assumes nothing.
use mathlib.Core.Path.{◌≡◌, sym, ap, ◌∙◌}
use Rattle.std.specs.Prelude.{Ok, Err}
use borrow.Author.Rules.{rules}
use Rattle.octets.specs.Choice.{pick}
use Rattle.answers.specs.Answers.{first_turn}
use Rattle.answers.proofs.Going.{begins, turns, less, ends, fails}
use Rattle.answers.proofs.turns.turns_from.Goals as goal

pub loop-next-init : goal.loop-next-init
unfolding first_turn
loop-next-init c =
    let a = c.args in
    rw c.first_left.ensures (begins a.answer.now a.definite a.end a.first (pick a.definite a.count 1) c.requires)

pub returns-in_err-next : goal.returns-in_err-next
returns-in_err-next c =
    let is : c.from_residual.result ≡ Err c.in_err-next.field-0.0 = search rules in
    is ∙ fails _ _ _ c.loop-next.invariant (sym c.in_err-next.was ∙ c.turned.ensures)

pub loop-next-smaller : goal.loop-next-smaller
loop-next-smaller c =
    less _ _ _ c.loop-next.invariant (λ i. (c.type_inv.answer i).fits) (ap Ok (sym c.in-Some.is) ∙ sym c.in_ok-next.was ∙ c.turned.ensures)

pub loop-next-preserved : goal.loop-next-preserved
loop-next-preserved c =
    turns _ _ _ c.loop-next.invariant (λ i. (c.type_inv.answer i).fits) (ap Ok (sym c.in-Some.is) ∙ sym c.in_ok-next.was ∙ c.turned.ensures)

pub returns : goal.returns
returns c = ends _ _ _ c.loop-next.invariant (ap Ok (sym c.in_default.is) ∙ sym c.in_ok-next.was ∙ c.turned.ensures)

-- `session::select::by_identifier` meets its contract. Assumes nothing.
use Rattle.std.proofs.Common.{arith}
use borrow.Author.Tests.{eq-eqb, ne_eqb}
use Rattle.std.proofs.lemmas.Grind.{common_steps}
use Rattle.card.specs.Tree.{child}
use Rattle.octets.specs.Choice.{pick}
use Rattle.session.specs.Select.{by_identifier}
use Rattle.session.proofs.select.by_identifier.Goals as goal

pub returns-then-directory-root : goal.returns-then-directory-root
unfolding by_identifier child pick
returns-then-directory-root c = let e = eq-eqb _ _ c.if-directory-root.true in grind (arith, common_steps)

pub returns : goal.returns
unfolding by_identifier child pick
returns c = let e = ne_eqb _ _ c.if-directory-root.false in grind (arith, common_steps)

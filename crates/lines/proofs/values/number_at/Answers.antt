-- `lines::values::number_at` meets its contract: at most `most` digits of the base make a number below its `most`-th power. Assumes nothing.
use Rattle.std.proofs.Common.{arith}
use Rattle.std.proofs.lemmas.Grind.{common_steps}
use Rattle.octets.specs.Choice.{pick}
use Rattle.lines.specs.Values.{number_at, number_in, before}
use Rattle.lines.proofs.Reading.{few_digits}
use Rattle.lines.proofs.values.number_at.Goals as goal

pub returns : goal.returns
unfolding number_at number_in before pick
returns c =
    let a = c.args in
    let lies = c.in_ok-from.ensures.1 in
    let small = few_digits a.input.now _ _ a.base a.most _ lies.0 lies.1 c.if-most-to.false (omega arith) c.in_ok-n.ensures.1 in
    grind (arith, common_steps)

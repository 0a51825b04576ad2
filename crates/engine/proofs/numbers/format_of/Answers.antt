-- `engine::numbers::format_of` meets its contract. Assumes nothing.
use Rattle.octets.proofs.Picks.{picks}
use Rattle.engine.specs.Numbers.{format_of}
use Rattle.engine.proofs.numbers.format_of.Goals as goal

pub returns-then-format-eq0 : goal.returns-then-format-eq0
unfolding format_of
returns-then-format-eq0 c = search picks

pub returns-then-format-eq1 : goal.returns-then-format-eq1
unfolding format_of
returns-then-format-eq1 c = search picks

pub returns : goal.returns
unfolding format_of
returns c = search picks

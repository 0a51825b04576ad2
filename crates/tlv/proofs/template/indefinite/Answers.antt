-- `tlv::template::indefinite` meets its contract: each arm is the one that the definition picks. Assumes nothing.
use borrow.Author.Tests.{le-leb, lt-leb}
use Rattle.octets.specs.Choice.{pick}
use Rattle.tlv.specs.Templates.{indefinite}
use Rattle.tlv.proofs.template.indefinite.Goals as goal

pub returns-then-end-lt4 : goal.returns-then-end-lt4
unfolding indefinite pick
returns-then-end-lt4 c = rw (lt-leb _ _ c.if-end-lt4.true)

pub returns-then-script-end : goal.returns-then-script-end
unfolding indefinite pick
returns-then-script-end c = rw (le-leb _ _ c.if-end-lt4.false, c.if-script-end.true)

pub returns : goal.returns
unfolding indefinite pick
returns c = rw (le-leb _ _ c.if-end-lt4.false, c.if-script-end.false)

-- `tlv::lengths::code_of` meets its contract. Assumes nothing.
use Rattle.tlv.specs.Lengths.{code_of}
use Rattle.tlv.proofs.lengths.code_of.Goals as goal

pub returns-in-Found : goal.returns-in-Found
unfolding code_of
returns-in-Found c = rw c.in-Found.is

pub returns-in-Bad : goal.returns-in-Bad
unfolding code_of
returns-in-Bad c = rw c.in-Bad.is

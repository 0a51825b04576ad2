-- `session::fcp::of_directory` meets its contract. Assumes nothing.
use Rattle.octets.specs.Bytes.{bytes2}
use Rattle.session.specs.Fcp.{fcp83, fcp8a}
use Rattle.session.proofs.Template.{directory-fcp}
use Rattle.session.proofs.fcp.of_directory.Goals as goal

pub returns : goal.returns
unfolding fcp83 fcp8a bytes2
returns c = rw c.bytes2.ensures (directory-fcp c.args.r c.requires.0)

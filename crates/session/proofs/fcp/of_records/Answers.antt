-- `session::fcp::of_records` meets its contract. Assumes nothing.
use native.Mathlib.Omega.{arith}
use Rattle.octets.specs.Bytes.{bytes2}
use Rattle.session.specs.Fcp.{fcp83, fcp8a}
use Rattle.session.proofs.Template.{records-fcp}
use Rattle.session.proofs.fcp.of_records.Goals as goal

pub record_count-count-requires : goal.record_count-count-requires
record_count-count-requires c = (c.requires.1.records c.requires.0).0

pub overflow_cast-result : goal.overflow_cast-result
overflow_cast-result c =
    let p = c.requires in
    let n = (p.1.records p.0).1 in
    omega arith

pub returns : goal.returns
unfolding fcp83 fcp8a bytes2
returns c =
    let p = c.requires in
    rw (c.bytes2.ensures, c.bytes2-2.ensures, c.bytes2-3.ensures, c.record_descriptor.ensures, c.record_count-count.ensures.0) (records-fcp c.args.r p.0 p.1.most)

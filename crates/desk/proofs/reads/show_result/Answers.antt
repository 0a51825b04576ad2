-- `desk::reads::show_result` meets its contract: its lines are those of the part of the answer that the data are. Assumes nothing.
use Rattle.std.proofs.Common.{◌≡◌, ◌+◌, ◌-◌, ◌*◌, Some, ap, arith}
use Rattle.octets.proofs.Writes.{part_length}
use Rattle.desk.specs.Reads.{shown}
use Rattle.desk.proofs.reads.show_result.Goals as goal

pub returns : goal.returns
returns c =
    let a = c.args in
    let p = c.put_result-next.ensures in
    let n : a.from + a.count - a.from ≡ a.count = omega arith in
    let l = part_length a.answer.now a.from a.count c.requires.inside in
    let to : c.put_result-next.result ≡ a.to + 2 * a.count + 18 = rw (n, l) at p.1 in
    (rw n at p.0, ap (shown (Some (a.from + a.count + 2))) to)

-- `desk::lists::list_from` meets its contract. The loop's invariant: what is left, behind the rows and the data that were put, is the
-- whole list (`Going`). A round in which the line asks for an operation (`asked`) puts its row and its bytes, which find room, and the
-- list goes on behind them (`goes_on_lem`). The measure is what is left of the text. Assumes nothing.
use Rattle.std.proofs.Common.{◌-◌, sym, ◌∙◌, arith}
use Rattle.octets.specs.Bytes.{part}
use Rattle.lines.proofs.Reading.{lent_rest}
use Rattle.desk.proofs.Going.{begins, asked, ends, fails, bytes_few, goes_on_lem}
use Rattle.desk.proofs.lists.list_from.Goals as goal

pub loop-at-init : goal.loop-at-init
loop-at-init c =
    let p = c.requires in
    begins c.args.text.now _ _ c.args.first p.0 p.2 p.3

pub returns-in_default : goal.returns-in_default
returns-in_default c =
    (fails c.loop-at.invariant c.loop-at-test.true c.value_end-end.ensures.0 (sym c.line_of.ensures.0 ∙ c.in_default.is), tt)

pub overflow_add-held : goal.overflow_add-held
overflow_add-held c =
    let q = asked c.requires.1 c.loop-at-test.true c.value_end-end.ensures c.line_of.ensures c.in-Some.is in
    let n = rw (lent_rest (part c.args.text.now c.loop-at.at (c.value_end-end.result - c.loop-at.at)) c.in-Some.a.from) at c.decode-held.ensures.1 in
    omega (arith, bytes_few q, n, c.loop-at.invariant.byte, q.last, q.short)

pub loop-at-preserved : goal.loop-at-preserved
loop-at-preserved c =
    let q = asked c.requires.1 c.loop-at-test.true c.value_end-end.ensures c.line_of.ensures c.in-Some.is in
    let d = rw (lent_rest (part c.args.text.now c.loop-at.at (c.value_end-end.result - c.loop-at.at)) c.in-Some.a.from) at c.decode-held.ensures in
    goes_on_lem c.loop-at.invariant q c.put_row.ensures d.0 d.1

pub returns : goal.returns
returns c =
    let g = c.loop-at.invariant in
    (ends g (omega arith), (omega (arith, g.row, g.place, c.requires.1), omega (arith, g.byte, g.place, c.requires.1)))

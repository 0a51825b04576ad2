-- `expanded::answer::put_rapdu` meets its contract: tag, length, data and status are written one behind another.
-- Each part is written at the place where the one before it ended, so the four writes are one write of the R-APDU (`rapdu-written`).
-- Where the data begin is said once (`from`): after the tag and the length, which counts the data and the two bytes of the status. The
-- room that was asked for covers all four parts, and the numbers stay small since an outcome has few data (`data_few`). The data that
-- are written are as many as the outcome counts (`data_length_lem`). Assumes nothing.
use mathlib.Core.Path.{◌≡◌, sym, ap, ◌∙◌}
use Prim.Native.Nat.{ℕ, ◌+◌}
use native.Mathlib.Omega.{arith}
use lib.ListN.{length}
use Rattle.octets.specs.Bytes.{overwrite}
use Rattle.tlv.specs.Lengths.{length_bytes}
use Rattle.tlv.proofs.Written.{length_some}
use Rattle.command.specs.declared.Outcome.{Outcome}
use Rattle.command.specs.Outcomes.{data_of, data_count}
use Rattle.command.proofs.Outgoing.{data_length_lem, data_few}
use Rattle.step.specs.Limits.{rapdu_size}
use Rattle.expanded.specs.Expanded.{rapdu}
use Rattle.expanded.proofs.Written.{rapdu-written}
use Rattle.expanded.proofs.answer.put_rapdu.Goals as goal

pub fill-requires : goal.fill-requires
unfolding rapdu_size
fill-requires c = omega arith

pub overflow_add-data_count : goal.overflow_add-data_count
overflow_add-data_count c =
    let few = data_few c.args.o _ c.requires.0 in omega arith

pub put_length-from-requires : goal.put_length-from-requires
unfolding rapdu_size
put_length-from-requires c =
    let few = data_few c.args.o _ c.requires.0 in
    let some = length_some (data_count c.args.o + 2) in
    (omega arith, omega arith)

-- where the data begin
from : (o : Outcome) (at : ℕ) {n place : ℕ} → n ≡ data_count o → place ≡ at + 1 + length (length_bytes (n + 2))
    → place ≡ at + 1 + length (length_bytes (data_count o + 2))
from o at n there = rw n at there

pub put_data-end-requires : goal.put_data-end-requires
unfolding rapdu_size
put_data-end-requires c =
    (c.requires.0, omega (arith, from c.args.o c.args.at c.data_count.ensures c.put_length-from.ensures.1))

pub put_num-requires : goal.put_num-requires
unfolding rapdu_size
put_num-requires c =
    omega (arith, from c.args.o c.args.at c.data_count.ensures c.put_length-from.ensures.1)

pub overflow_add-result : goal.overflow_add-result
unfolding rapdu_size
overflow_add-result c = omega (arith, from c.args.o c.args.at c.data_count.ensures c.put_length-from.ensures.1)

pub returns : goal.returns
returns c =
    let o = c.args.o in
    let m = c.args.out.now in
    let d = data_of o c.args.files.now c.args.waiting.now in
    let n : c.data_count.result ≡ data_count o = c.data_count.ensures in
    let h = rapdu-written m c.args.at d c.word_of.result (sym (data_length_lem o c.args.files.now c.args.waiting.now c.requires.0 (omega arith))) c.requires.1
    c.fill.ensures (rw n at c.put_length-from.ensures.0) (from o c.args.at c.data_count.ensures c.put_length-from.ensures.1) c.put_data-end.ensures.0 c.put_data-end.ensures.1 c.put_num.ensures in
    (h.0 ∙ ap (λ (w : ℕ). overwrite m c.args.at (rapdu d w)) c.word_of.ensures, h.1)

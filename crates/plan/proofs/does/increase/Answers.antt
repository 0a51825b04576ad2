-- `plan::does::increase` meets its contract: a sum that fits is the new record, and it is made with the added bytes after it.
-- The code finds record 1, adds the data to it, and goes one of two ways by the carry, which is 0
-- just where the sum has room in the record's bytes: a carry is the check of the sum that fails (`sum-fails`), none is that check
-- passed (`sum_done`). Then the made bytes begin with the sum, which `add` put there, and the data, copied after it (`new-bytes`),
-- and the change writes that sum as the new record (`new-writes`). Assumes nothing.
use mathlib.Core.Path.{◌≡◌, ap, ◌∙◌}
use mathlib.Core.List.{◌++◌}
use native.Mathlib.Omega.{arith}
use lib.ListN.{length}
use Rattle.octets.specs.Bytes.{bytes_of}
use Rattle.session.specs.Session.{at_record}
use Rattle.command.specs.Outcomes.{normal}
use Rattle.plan.specs.Ends.{produced}
use Rattle.plan.specs.Files.{sum}
use Rattle.plan.specs.Plans as plans
use Rattle.plan.specs.declared.Change.TheVariants.{SumRecord}
use Rattle.plan.specs.Promised.{writes_of, Fits, newest_of}
use Rattle.plan.proofs.Inside.{none-fits, newest-fits}
use Rattle.plan.proofs.Sums.{raised, sum-fails, sum_done, new-bytes, new-size, new-writes}
use Rattle.plan.proofs.does.increase.Goals as goal

pub returns-then-carry-ne0 : goal.returns-then-carry-ne0
returns-then-carry-ne0 c =
    let a = c.args in (
      λ f row entry content.
          c.failed.ensures.0 a.«data».now _
          ∙ sum-fails (raised {s = a.s} c.record_offset.ensures c.requires.file.inside row entry content) a.«data».now c.add-carry.ensures.0 c.if-carry-ne0.true (plans.increase a.format a.«data».now a.s f),
      λ t h. none-fits _ _ _ c.failed.ensures.1,
    )

pub produced-requires : goal.produced-requires
produced-requires c =
    let p = c.requires in (omega (arith, p.short, p.fits), omega arith)

pub returns : goal.returns
unfolding plans.increase Fits newest_of
returns c =
    let a = c.args in
    let p = c.requires in
    let record-made : c.new_record.result ≡ newest_of a.s.file a.r = c.new_record.ensures ∙ ap (λ e. newest_of e a.r) c.target.ensures in
    let sum-made = c.add-carry.ensures in (
      λ f row entry content.
          let h = raised {s = a.s} c.record_offset.ensures p.file.inside row entry content in
          let out = bytes_of f.row.record_length (sum f.row f.content a.«data».now) ++ a.«data».now in
          let e = new-bytes h a.«data».now a.made.now (omega arith) (omega (arith, p.short, p.fits)) sum-made.1 c.copy.ensures in
          sum_done h a.«data».now sum-made.0 c.if-carry-ne0.false
          (c.produced.ensures.0 a.«data».now _ out a.made.now e (new-size h a.«data».now)
          ∙ (λ i. produced a.format (c.at_record-next.ensures i) normal out (writes_of (SumRecord (record-made i)) a.«data».now (e i)))
          ∙ (λ i. produced a.format (at_record a.s 1) normal out (new-writes h a.«data».now a.made.now i))),
      λ t h. rw (c.produced.ensures.1, record-made) (newest-fits t (length a.files.now) a.s.file a.r p.file h, omega (arith, p.short)),
    )

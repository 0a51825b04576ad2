-- `engine::scripts::run_value` meets its contract: with its mark the card is one that a script starts from.
-- The contract asks for a card that a script can start from once it has the mark, and the mark that is set makes the lent memories
-- that card (`begins`), so the items may be run. The run promises that the gathered bytes fit the buffer of 1,004, and a count of at
-- most 1,024: with the response memory that number 4 sees to that is what `put_answer` asks. What the run and the answer promise together is
-- the definition's result on the card with its mark (`value-gives`, `with_mark_lem`). Assumes nothing.
use mathlib.Core.Path.{sym, ap, ◌∙◌}
use Prim.Native.Nat.{◌+◌}
use native.Mathlib.Omega.{arith}
use lib.ListN.{length-take}
use lib.Seq.{length-take-le}
use borrow.Author.Rules.{rules}
use Rattle.card.specs.Lent.{held}
use Rattle.engine.specs.Calls.{arguments_of, run_value}
use Rattle.engine.proofs.Ended.{with_mark_lem, begins, expanded_longest, expanded-small, value-gives}
use Rattle.engine.proofs.scripts.run_value.Goals as goal

pub run-g-requires : goal.run-g-requires
run-g-requires c =
    record {
      ahead = c.requires.0;
      inside = c.requires.1;
      short = c.requires.2.script_short;
      starts = begins (held c.args.card.now) c.mark.ensures c.requires.2.starts;
      room = search rules;
    }

pub slice_bounds-put_answer-end : goal.slice_bounds-put_answer-end
slice_bounds-put_answer-end c =
    let r = c.run-g in
    sym (length-take-le (r.result.rapdus.kept + r.result.rapdus.last) _ (omega (arith, r.ensures.ran.1)))

pub put_answer-length-requires : goal.put_answer-length-requires
put_answer-length-requires c =
    let r = c.run-g in
    let long = c.requires.2.response_long in (
      omega (arith, long, expanded_longest),
      rw length-take (omega (arith, r.ensures.ran.1)),
      r.ensures.ran.2,
    )

pub returns-clause-ran : goal.returns-clause-ran
returns-clause-ran c =
    let r = c.run-g in
    let p = c.put_answer-length.ensures in (
      value-gives _ _ _ (arguments_of c.args.call c.args.script.now c.args.response.now) _ r.result (held r.new.card) _ _ _ (rw c.wide.ensures.0 at r.ensures.ran.0) p.0 p.1 ∙ ap (run_value _ _ _ _) (with_mark_lem (held c.args.card.now) c.mark.ensures),
      expanded-small _ r.result.step.count _ (rw length-take (omega (arith, r.ensures.ran.1))) r.ensures.ran.2 _ p.1,
    )

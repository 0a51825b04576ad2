-- `step::limit::limited` meets its contract: by whether the R-APDU counts and would pass the 1,000 bytes. Assumes nothing.
use mathlib.Core.Path.{◌≡◌, ap, ◌∙◌}
use borrow.Author.Tests.{lt-ltb, le-ltb}
use Rattle.command.specs.Outcomes.{data_count}
use Rattle.step.specs.Limits.{rapdu_size}
use Rattle.step.proofs.Limited.{counts_so, none_counts, passing, within}
use Rattle.step.proofs.limit.limited.Goals as goal
use Rattle.step.proofs.limit.limited.Lts as lts
use Rattle.step.proofs.limit.limited.Reads as reads
use Rattle.step.proofs.limit.limited.Tie as tie

abbrev After-rapdu_size : Type 0
After-rapdu_size = lts.After-rapdu_size tie.the-claims reads.Pre reads.Post

-- the size is that of the R-APDU
size : (c : After-rapdu_size) → c.rapdu_size.result ≡ rapdu_size (data_count c.args.d.outcome)
size c = c.rapdu_size.ensures.0 ∙ ap rapdu_size c.data_count.ensures

pub returns-then-kept-rapdu_size-gt-MOST_KEPT : goal.returns-then-kept-rapdu_size-gt-MOST_KEPT
returns-then-kept-rapdu_size-gt-MOST_KEPT c =
    λ card «data» bytes plan told.
    passing c.args.kept c.args.counts c.args.s c.requires.0 card «data» bytes plan c.args.d told c.failed.result (counts_so c.args.kept _ c.if-counts.true (size c.before.before) (lt-ltb _ _ c.if-kept-rapdu_size-gt-MOST_KEPT.true)) (c.failed.ensures.0 «data» bytes) c.failed.ensures.1

pub returns-else-kept-rapdu_size-gt-MOST_KEPT : goal.returns-else-kept-rapdu_size-gt-MOST_KEPT
returns-else-kept-rapdu_size-gt-MOST_KEPT c =
    λ card «data» bytes plan told. within c.args.kept c.args.counts c.args.s c.requires.0 card «data» bytes plan c.args.d told (counts_so c.args.kept _ c.if-counts.true (size c.before) (le-ltb _ _ c.if-kept-rapdu_size-gt-MOST_KEPT.false))

pub returns-else-counts : goal.returns-else-counts
returns-else-counts c =
    λ card «data» bytes plan told. within c.args.kept c.args.counts c.args.s c.requires.0 card «data» bytes plan c.args.d told (none_counts c.args.kept _ c.if-counts.false)

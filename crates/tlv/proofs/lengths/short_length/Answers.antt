-- `tlv::lengths::short_length` meets its contract: each arm is the one that the definition picks. Assumes nothing.
use Prim.Native.Nat.{◌+◌, ◌≤◌, ◌<◌}
use native.Mathlib.Omega.{arith}
use Rattle.octets.proofs.Picks.{picks}
use Rattle.tlv.specs.Lengths.{short_length}
use Rattle.tlv.proofs.lengths.short_length.Goals as goal
use Rattle.tlv.proofs.lengths.short_length.Lts as lts
use Rattle.tlv.proofs.lengths.short_length.Reads as reads
use Rattle.tlv.proofs.lengths.short_length.Tie as tie

abbrev Then1 : Type 0
Then1 = lts.Then1 tie.the-claims reads.Pre reads.Post

abbrev Else1 : Type 0
Else1 = lts.Else1 tie.the-claims reads.Pre reads.Post

none : (t : Then1) → t.args.end < t.args.at + 1
none t = omega arith

there : (o : Else1) → o.args.at + 1 ≤ o.args.end
there o = omega arith

pub returns-then-end-at-lt1 : goal.returns-then-end-at-lt1
unfolding short_length
returns-then-end-at-lt1 c = search (picks, none c.before)

pub returns-then-n-lt128 : goal.returns-then-n-lt128
unfolding short_length
returns-then-n-lt128 c = rw (← c.wide-n.ensures.0) (search (picks, there c.before.before.before.before))

pub returns : goal.returns
unfolding short_length
returns c = rw (← c.wide-n.ensures.0) (search (picks, there c.before.before.before.before))

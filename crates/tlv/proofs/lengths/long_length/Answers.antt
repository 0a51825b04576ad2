-- `tlv::lengths::long_length` meets its contract: each arm is the one that the definition picks. Assumes nothing.
use Prim.Native.Nat.{◌+◌, ◌≤◌, ◌<◌}
use native.Mathlib.Omega.{arith}
use Rattle.octets.proofs.Picks.{picks}
use Rattle.tlv.specs.Lengths.{long_length}
use Rattle.tlv.proofs.lengths.long_length.Goals as goal
use Rattle.tlv.proofs.lengths.long_length.Lts as lts
use Rattle.tlv.proofs.lengths.long_length.Reads as reads
use Rattle.tlv.proofs.lengths.long_length.Tie as tie

abbrev Then1 : Type 0
Then1 = lts.Then1 tie.the-claims reads.Pre reads.Post

abbrev Else1 : Type 0
Else1 = lts.Else1 tie.the-claims reads.Pre reads.Post

none : (t : Then1) → t.args.end < t.args.at + 2
none t = omega arith

there : (o : Else1) → o.args.at + 2 ≤ o.args.end
there o = omega arith

pub returns-then-end-at-lt2 : goal.returns-then-end-at-lt2
unfolding long_length
returns-then-end-at-lt2 c = search (picks, none c.before)

pub returns-then-n-lt256 : goal.returns-then-n-lt256
unfolding long_length
returns-then-n-lt256 c = rw (← c.num_at-n.ensures.0) (search (picks, there c.before.before.before))

pub returns : goal.returns
unfolding long_length
returns c = rw (← c.num_at-n.ensures.0) (search (picks, there c.before.before.before))

-- `tlv::lengths::length_at` meets its contract: each arm is the one that the definition picks. Assumes nothing.
use mathlib.Core.Path.{◌≡◌}
use Prim.Native.Nat.{◌+◌, ◌≤◌, ◌<◌}
use native.Mathlib.Omega.{arith}
use Rattle.octets.proofs.Picks.{picks}
use Rattle.tlv.specs.declared.lengths.Length.{Length}
use Rattle.tlv.specs.Lengths.{length_at}
use Rattle.tlv.specs.Promised.{LengthFits}
use Rattle.tlv.proofs.Fits.{length-told}
use Rattle.tlv.proofs.lengths.length_at.Goals as goal
use Rattle.tlv.proofs.lengths.length_at.Lts as lts
use Rattle.tlv.proofs.lengths.length_at.Reads as reads
use Rattle.tlv.proofs.lengths.length_at.Tie as tie

abbrev After-shared_slice_known : Type 0
After-shared_slice_known = lts.After-shared_slice_known tie.the-claims reads.Pre reads.Post

abbrev Then1 : Type 0
Then1 = lts.Then1 tie.the-claims reads.Pre reads.Post

abbrev Else1 : Type 0
Else1 = lts.Else1 tie.the-claims reads.Pre reads.Post

-- what is promised of a length that is the one at the place
told : (k : After-shared_slice_known) {l : Length} → l ≡ length_at k.args.bytes.now k.args.at k.args.end → (l ≡ length_at k.args.bytes.now k.args.at k.args.end) × LengthFits k.args.at k.args.end l
told k = length-told k.args.bytes.now (λ i. (k.shared_slice_known-1.given i).fits) k.args.at k.args.end

none : (t : Then1) → t.args.end < t.args.at + 1
none t = omega arith

here : (o : Else1) → o.args.at + 1 ≤ o.args.end
here o = omega arith

pub returns-then-end-at-lt1 : goal.returns-then-end-at-lt1
unfolding length_at
returns-then-end-at-lt1 c = told c.before.before (search (picks, none c.before))

pub returns-then-first-le127 : goal.returns-then-first-le127
unfolding length_at
returns-then-first-le127 c = told c.before.before.before.before.before (rw (← c.wide-first.ensures.0) (search (picks, here c.before.before.before.before)))

pub returns-then-first-eq129 : goal.returns-then-first-eq129
unfolding length_at
returns-then-first-eq129 c = told c.before.before.before.before.before.before.before (rw (← c.wide-first.ensures.0) (search (picks, here c.before.before.before.before.before.before)))

pub returns-then-first-eq130 : goal.returns-then-first-eq130
unfolding length_at
returns-then-first-eq130 c =
    told c.before.before.before.before.before.before.before.before (rw (← c.wide-first.ensures.0) (search (picks, here c.before.before.before.before.before.before.before)))

pub returns : goal.returns
unfolding length_at
returns c = told c.before.before.before.before.before.before.before (rw (← c.wide-first.ensures.0) (search (picks, here c.before.before.before.before.before.before)))

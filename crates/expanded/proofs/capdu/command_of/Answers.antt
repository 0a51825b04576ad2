-- `expanded::capdu::command_of` meets its contract: each part is what its callee ensures. Assumes nothing.
use mathlib.Core.Path.{◌≡◌, refl}
use Prim.Native.Nat.{ℕ}
use lib.Dec.{leb}
use Rattle.octets.specs.Choice.{pick}
use Rattle.octets.specs.Bytes.{byte}
use Rattle.octets.proofs.Picks.{le_yes, le_no}
use Rattle.expanded.proofs.Fits.{read, Told, command-told}
use Rattle.expanded.proofs.capdu.command_of.Goals as goal
use Rattle.expanded.proofs.capdu.command_of.Lts as lts
use Rattle.expanded.proofs.capdu.command_of.Reads as reads
use Rattle.expanded.proofs.capdu.command_of.Tie as tie

abbrev After-fifth : Type 0
After-fifth = lts.After-fifth tie.the-claims reads.Pre reads.Post

-- the command, with its case and its bytes, wherever its data lie
told : (c : After-fifth) {from size : ℕ}
    → from ≡ pick (leb 3 c.case_by_size-case.result) 5 4
    → size ≡ pick (leb 3 c.case_by_size-case.result) (byte c.args.capdu.now 4) 0
    → Told c.args.capdu.now (read c.case_by_size-case.result c.wide.result c.wide-2.result c.wide-3.result c.wide-4.result c.fifth.result from size)
told c =
    command-told c.args.capdu.now (λ i. (c.shared_slice_known-1.given i).fits) c.requires c.case_by_size-case.ensures.0
    c.wide.ensures.0 c.wide-2.ensures.0 c.wide-3.ensures.0 c.wide-4.ensures.0 c.fifth.ensures.0

pub returns-then-case-ge3 : goal.returns-then-case-ge3
returns-then-case-ge3 c = told c.before.before.before (le_yes _ _ _ c.if-case-ge3.true refl) (le_yes _ _ _ c.if-case-ge3.true c.fifth-then-case-ge3.ensures.0)

pub returns : goal.returns
returns c = told c.before.before (le_no _ _ _ c.if-case-ge3.false refl) (le_no _ _ _ c.if-case-ge3.false refl)

-- `session::fcp::put_fcp` meets its contract: each array that is copied is the FCP, as long as is said. Assumes nothing.
use mathlib.Core.Path.{◌≡◌, sym, ◌∙◌}
use mathlib.Core.Bool.{false}
use mathlib.Core.List.{List}
use Prim.Native.Nat.{ℕ, ◌≤◌}
use native.Mathlib.Omega.{arith}
use lib.ListN.{length}
use borrow.Author.Rules.{rules}
use borrow.Author.Tests.{eq-eqb, le-leb, leb-false}
use Rattle.octets.specs.Bytes.{overwrite}
use Rattle.card.specs.declared.Row.{Row}
use Rattle.card.specs.Row.{is_directory}
use Rattle.session.specs.Fcp.{fcp}
use Rattle.session.specs.Promised.{FcpFits}
use Rattle.session.proofs.fcp.put_fcp.Goals as goal

put : (m d : List ℕ) (r : Row) (n : ℕ) {m' : List ℕ} → n ≤ 20 → m' ≡ overwrite m 0 d → n ≡ length d → d ≡ fcp r → (m' ≡ overwrite m 0 (fcp r)) × (n ≡ length (fcp r)) × (n ≤ 20)
put m d r n h w l e = (rw e at w, rw e at l, h)

beyond : (r : Row) → FcpFits r → is_directory r ≡ false → (r.kind ≡ 4 → ⊥) → 5 ≤ r.kind
beyond r fits z other =
    let h = leb-false r.kind 3 (rw (le-leb 1 r.kind fits.least) at z) in
    omega arith

pub of_directory-requires : goal.of_directory-requires
of_directory-requires c = (sym c.is_directory.ensures ∙ c.if-is_directory.true, c.requires.2)

pub returns-then-is_directory : goal.returns-then-is_directory
returns-then-is_directory c = put _ _ _ 13 (omega arith) c.copy.ensures (search rules) c.of_directory.ensures

pub of_transparent-requires : goal.of_transparent-requires
of_transparent-requires c = (eq-eqb _ _ c.if-r-eq-TRANSPARENT.true, c.requires.2)

pub returns-then-r-eq-TRANSPARENT : goal.returns-then-r-eq-TRANSPARENT
returns-then-r-eq-TRANSPARENT c = put _ _ _ 17 (omega arith) c.copy-then-r-eq-TRANSPARENT.ensures (search rules) c.of_transparent.ensures

pub of_records-requires : goal.of_records-requires
of_records-requires c =
    let k = beyond c.args.r c.requires.1 (sym c.is_directory.ensures ∙ c.if-is_directory.false) c.if-r-eq-TRANSPARENT.false in
    (k, c.requires.1, c.requires.2)

pub returns : goal.returns
returns c = put _ _ _ 20 (omega arith) c.copy-2.ensures (search rules) c.of_records.ensures

-- `engine::numbers::is_application` meets its contract: a root is the entry that the way up from it leads to. Assumes nothing.
use mathlib.Core.Path.{◌≡◌, sym, ap, ◌∙◌}
use mathlib.Core.Bool.{Bool, ◌&&◌}
use Prim.Native.Nat.{ℕ, ◌<◌}
use native.Mathlib.Nat.{le_refl}
use native.Mathlib.Omega.{arith}
use lib.Dec.{eqb}
use borrow.Author.Tests.{le-ltb, lt-ltb}
use Rattle.card.specs.Row.{entries, row_of}
use Rattle.card.specs.Tree.{is_root, root_of}
use Rattle.card.proofs.Kin.{own_root}
use Rattle.engine.proofs.numbers.is_application.Goals as goal

pub returns-then-entries-application : goal.returns-then-entries-application
returns-then-entries-application c =
    let a = c.args in
    rw (le-ltb a.application (entries a.table.now) (omega (arith, c.entries.ensures, c.if-entries-application.true)))

pub returns : goal.returns
returns c =
    let t = c.args.table.now in
    let e = c.args.application in
    let here : e < entries t = omega (arith, c.entries.ensures, c.if-entries-application.false) in
    let root : c.root_of.result ≡ root_of t e = unfold root_of in c.root_of.ensures.1 e (le_refl e) in
    ap (λ (r : ℕ). eqb r e) root ∙ own_root t c.requires e here ∙ sym (ap (λ (b : Bool). b && is_root (row_of t e)) (lt-ltb e (entries t) here))

-- `card::tree::child` meets its contract: the entry that is found is the first that passes the test, and what is given is that entry, in
-- whichever form it is passed on. Assumes nothing.
use mathlib.Core.Path.{◌≡◌, refl}
use mathlib.Core.Bool.{Bool, true, false, not, ◌&&◌, ◌||◌}
use Prim.Native.Nat.{ℕ, ◌<◌}
use native.Mathlib.Omega.{arith}
use lib.Dec.{eqb}
use Rattle.std.specs.Prelude.{Some, None}
use Rattle.std.proofs.iter.runs.Sources.{ranges}
use Rattle.std.proofs.lemmas.Grind.{common_steps}
use Rattle.octets.specs.Bytes.{byte}
use Rattle.card.specs.Row.{entries, row_of, is_df}
use Rattle.card.specs.Tree.{child_with, is_child_of}
use Rattle.card.proofs.Kin.{first_told}
use Rattle.card.proofs.tree.child.Goals as goal

pub returns : goal.returns
unfolding child_with
returns c =
    let a = c.args in
    let t = a.table.now in
    let test : ℕ → Bool = λ e. is_child_of a.directory (row_of t e) && ((not a.only_df || is_df (row_of t e)) && eqb (row_of t e).identifier a.identifier) in
    let here : (e : ℕ) → c.find.result ≡ Some e → (e < entries t) × (test e ≡ true) = grind (arith, common_steps, ranges) in
    let before : (e : ℕ) → c.find.result ≡ Some e → (k b : ℕ) → byte t k ≡ b → k < e → test k ≡ false = grind (arith, common_steps, ranges) in
    let none : c.find.result ≡ None → (k b : ℕ) → byte t k ≡ b → k < entries t → test k ≡ false = grind (arith, common_steps, ranges) in
    let found = first_told (entries t) test c.find.result here (λ e found k. before e found k (byte t k) refl) (λ found k. none found k (byte t k) refl) in
    grind (arith, common_steps, found)

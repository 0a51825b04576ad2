-- `session::select::if_named` meets its contract. Assumes nothing.
use mathlib.Core.Path.{◌≡◌, refl, ap, ◌∙◌}
use mathlib.Core.Bool.{Bool, true, false}
use Prim.Native.Nat.{ℕ}
use lib.Dec.{eqb}
use Rattle.std.specs.Prelude.{Some, None}
use Rattle.std.specs.Bool.{then_some}
use Rattle.octets.specs.Choice.{pick}
use Rattle.card.specs.declared.Row.{Row}
use Rattle.session.specs.Select.{if_named}
use Rattle.session.proofs.select.if_named.Goals as goal

picked : (b : Bool) (e : ℕ) → then_some b e ≡ pick b (Some e) None
unfolding pick
picked true e = refl
picked false e = refl

pub returns : goal.returns
unfolding if_named
returns c =
    let a = c.args in
    c.then_some.ensures ∙ picked _ a.e ∙ ap (λ (r : Row). pick (eqb r.identifier a.identifier) (Some a.e) None) c.row_at.ensures.0

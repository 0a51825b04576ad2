-- `desk::asking::line_of` meets its contract: a line comes to what its kind and its fields say, and an operation that it asks for fits.
-- Assumes nothing.
use mathlib.Core.Path.{refl, sym, ◌∙◌}
use Rattle.octets.proofs.Picks.{told}
use Rattle.desk.proofs.Naming.{named, line_brings, bytes_fit}
use Rattle.desk.proofs.asking.line_of.Goals as goal

pub returns : goal.returns
returns c =
    let is = sym c.kind_of.ensures ∙ c.in_ok-kind.was in
    let reads = sym c.which_of.ensures.0 ∙ c.in_ok-fields.was in
    let brings = told c.is_read.ensures c.if-is_read.false in
    let fits = bytes_fit _ _ _ (named _ _ (sym is) refl).byte c.in_ok-fields.ensures.1 in
    (c.with_bytes.ensures ∙ line_brings _ is reads brings, rw c.with_bytes.ensures fits)

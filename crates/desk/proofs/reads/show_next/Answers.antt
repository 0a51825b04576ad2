-- `desk::reads::show_next` meets its contract: each way out is what the result that stands there comes to (`shown_lines`, `shown_next`).
-- Assumes nothing.
use mathlib.Core.Path.{refl, sym, ap, ◌∙◌}
use native.Mathlib.Omega.{arith}
use Rattle.std.specs.Prelude.{Some}
use Rattle.octets.proofs.Writes.{write-none}
use Rattle.answers.specs.Promised.{ToldFits}
use Rattle.desk.specs.Reads.{shown_lines, shown_next}
use Rattle.desk.proofs.reads.show_next.Goals as goal

pub show_result-requires : goal.show_result-requires
unfolding ToldFits
show_result-requires c =
    let fits = rw (c.in-Some-Result.is ∙ ap Some c.in-Some-Result.field-0-is) at c.result_at.ensures.1 in
    let asks = c.requires in
    record { small = fits.small; inside = fits.inside; room = omega (arith, fits.further, fits.inside, asks.short, asks.printed, asks.room) }

pub put_code-requires : goal.put_code-requires
unfolding ToldFits
put_code-requires c =
    let few = rw (c.in-Some-BadFormat.is ∙ ap Some c.in-Some-BadFormat.field-0-is) at c.result_at.ensures.1 in
    let asks = c.requires in
    (omega arith, omega (arith, asks.short, asks.placed, asks.printed, asks.room))

pub returns-in-None : goal.returns-in-None
unfolding shown_lines shown_next
returns-in-None c =
    rw (sym c.result_at.ensures.0 ∙ c.in-None.is) (sym (write-none _ _), refl)

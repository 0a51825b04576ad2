-- `desk::asking::which_of` meets its contract: a line that names a kind is as long as the name. The check finds the other arms.
-- Assumes nothing.
use mathlib.Core.Path.{refl}
use Rattle.octets.specs.Choice.{pick}
use Rattle.desk.specs.Asking.{which_of}
use Rattle.desk.proofs.Naming.{signs, named, which_known}
use native.Mathlib.Omega.{arith}
use Rattle.desk.proofs.asking.which_of.Goals as goal

pub offset_at-requires : goal.offset_at-requires
unfolding signs pick
offset_at-requires c =
    (named c.args.line.now 2 c.requires c.in-2.is).long

pub offset_at-requires-in-3 : goal.offset_at-requires-in-3
unfolding signs pick
offset_at-requires-in-3 c =
    (named c.args.line.now 3 c.requires c.in-3.is).long

pub which_at-requires : goal.which_at-requires
unfolding signs pick
which_at-requires c =
    (named c.args.line.now 4 c.requires c.in-4.is).long

pub which_at-requires-in-5 : goal.which_at-requires-in-5
unfolding signs pick
which_at-requires-in-5 c =
    (named c.args.line.now 5 c.requires c.in-5.is).long

pub way_at-requires : goal.way_at-requires
unfolding signs pick
way_at-requires c =
    (named c.args.line.now 7 c.requires c.in-7.is).long

pub returns-in-1 : goal.returns-in-1
unfolding which_of signs pick
returns-in-1 c =
    let lies = (named c.args.line.now 1 c.requires c.in-1.is).long in
    (which_known _ 1 c.in-1.is refl, record { byte = omega arith; behind = omega arith; inside = lies })

pub returns-in-6 : goal.returns-in-6
unfolding which_of signs pick
returns-in-6 c =
    let lies = (named c.args.line.now 6 c.requires c.in-6.is).long in
    (which_known _ 6 c.in-6.is refl, record { byte = omega arith; behind = omega arith; inside = lies })

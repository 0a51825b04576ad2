-- `decide::decide_select` meets its contract: the first check that fails, or what is found.
-- The walk has three returns: the data have a wrong length (`select_wrong`), nothing is found (`select_lost`), or an entry is
-- (`select-found`). The contract speaks of every situation with this format, command, data, session and finding, so each return
-- also turns the code's values into those of the situation. That an entry that is found is one of the table with an FCP is what the
-- contract asks for. Assumes nothing.
use mathlib.Core.Path.{◌≡◌, sym, ap, ◌∙◌}
use mathlib.Core.Bool.{true}
use mathlib.Core.List.{List}
use Prim.Native.Nat.{ℕ}
use native.Mathlib.Omega.{arith}
use lib.ListN.{length}
use Rattle.octets.proofs.Picks.{told, told-true}
use Rattle.session.specs.Select.{row_found}
use Rattle.command.specs.declared.Command.{Command}
use Rattle.command.specs.declared.checks.Check.TheVariants.{WrongPathLength, NotFound}
use Rattle.plan.specs.Ends.{failed}
use Rattle.plan.specs.Plans.{Situation, select_entry}
use Rattle.decide.specs.Fails.{path_length_fits}
use Rattle.decide.proofs.Plans.{path_some, select_wrong, select_lost, select-found}
use Rattle.std.proofs.lemmas.Bool.{not_from_true}
use Rattle.decide.proofs.decide_select.Goals as goal

-- the length that fits the code's command and data fits those of the situation
fitting_so : (c : Command) («data» : List ℕ) (w : Situation) → path_length_fits c.p1 (length «data») ≡ true → w.command ≡ c → w.«data» ≡ «data» → path_length_fits w.command.p1 (length w.«data») ≡ true
fitting_so c «data» w fitting k d = (λ i. path_length_fits (k i).p1 (length (d i))) ∙ fitting

pub returns-then-not-path_length_fits : goal.returns-then-not-path_length_fits
returns-then-not-path_length_fits c = (
  λ w so.
      c.failed.ensures.0 c.args.«data».now _ ∙ (λ i. failed (sym so.session i) WrongPathLength)
      ∙ select_wrong w ((λ i. path_length_fits (so.command i).p1 (length (so.same_data i))) ∙ told c.path_length_fits.ensures c.if-not-path_length_fits.true),
  c.failed.ensures.1,
)

pub find-requires : goal.find-requires
find-requires c =
    (c.requires.stands, path_some c.args.c.p1 (length c.args.«data».now) (told-true c.path_length_fits.ensures (not_from_true _ c.if-not-path_length_fits.false)))

pub returns-in_default : goal.returns-in_default
returns-in_default c =
    let a = c.args in
    let fitting = told-true c.path_length_fits.ensures (not_from_true _ c.if-not-path_length_fits.false) in (
      λ w so.
          c.failed-in_default.ensures.0 a.«data».now _ ∙ (λ i. failed (sym so.session i) NotFound)
          ∙ select_lost w (fitting_so a.c a.«data».now w fitting so.command so.same_data) (so.found ∙ sym c.find.ensures ∙ c.in_default.is),
      c.failed-in_default.ensures.1,
    )

-- an entry is found
pub row_at-requires : goal.row_at-requires
row_at-requires c = omega (arith, (c.requires.found c.in-Some.e (sym c.find.ensures ∙ c.in-Some.is)).inside)

pub select_entry-requires : goal.select_entry-requires
select_entry-requires c =
    let h = c.requires.found c.in-Some.e (sym c.find.ensures ∙ c.in-Some.is) in
    record { fcp = rw c.row_at.ensures.0 h.fcp; row = c.row_at.ensures.1; entry = h.byte }

pub returns : goal.returns
unfolding row_found
returns c =
    let a = c.args in
    let e = c.in-Some.e in
    let there = sym c.find.ensures ∙ c.in-Some.is in
    let fitting = told-true c.path_length_fits.ensures (not_from_true _ c.if-not-path_length_fits.false) in (
      λ w so.
          c.select_entry.ensures.0 a.«data».now
          ∙ (λ i. select_entry (sym so.same_format i) (sym so.session i) (sym so.command i).p2 e ((c.row_at.ensures.0 ∙ sym (ap (row_found a.table.now) there) ∙ sym so.row) i))
          ∙ select-found w (fitting_so a.c a.«data».now w fitting so.command so.same_data) e (so.found ∙ there) (ap (λ (q : Command). q.instruction) so.command ∙ c.requires.instruction),
      c.select_entry.ensures.1,
    )

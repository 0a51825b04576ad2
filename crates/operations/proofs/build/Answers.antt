-- `operations::build` meets its contract: each return is a case of the definition (`Given`). Assumes nothing.
use mathlib.Core.Path.{◌≡◌, sym, ap, ◌∙◌}
use native.Mathlib.Omega.{arith}
use borrow.Author.Rules.{rules}
use Rattle.std.specs.Prelude.{Ok, Err}
use Rattle.operations.specs.declared.Refusal.TheVariants.{TooLong, NoRoom}
use Rattle.operations.specs.Sizes.{script_size, Measures}
use Rattle.operations.proofs.Outcomes.{no_list, measured-bad, no_format_lem, too_long, no_room, is-built, by_number}
use Rattle.operations.proofs.build.Goals as goal

pub returns-then-not-is_list : goal.returns-then-not-is_list
returns-then-not-is_list c = no_list _ _ _ _ (sym c.is_list.ensures ∙ c.if-not-is_list.true)

pub returns-in_err-format : goal.returns-in_err-format
returns-in_err-format c =
    let is : c.from_residual.result ≡ Err c.in_err-format.field-0.0 = search rules in
    rw is (no_format_lem _ _ _ _ (sym c.is_list.ensures ∙ c.if-not-is_list.false) c.in_err-format.ensures)

pub returns-in_err-size : goal.returns-in_err-size
returns-in_err-size c =
    let is : c.from_residual-in_err-size.result ≡ Err c.in_err-size.field-0.0 = search rules in
    rw is (by_number _ c.in_ok-format.ensures _ _ _ (Err _) (measured-bad _ _ _ _ (sym c.is_list.ensures ∙ c.if-not-is_list.false) _ c.in_err-size.ensures))

pub script_size-length-requires : goal.script_size-length-requires
unfolding Measures
script_size-length-requires c = omega (arith, c.in_ok-size.ensures)

pub returns-then-length-gt-LONGEST_SCRIPT : goal.returns-then-length-gt-LONGEST_SCRIPT
unfolding Measures
returns-then-length-gt-LONGEST_SCRIPT c =
    let all = c.in_ok-size.ensures in
    by_number _ c.in_ok-format.ensures _ _ _ (Err TooLong)
    (too_long _ _ _ _ (sym c.is_list.ensures ∙ c.if-not-is_list.false) all.0 (c.script_size-length.ensures ∙ ap (script_size _) all.1)
    c.if-length-gt-LONGEST_SCRIPT.true)

pub returns-then-script-length : goal.returns-then-script-length
unfolding Measures
returns-then-script-length c =
    let all = c.in_ok-size.ensures in
    by_number _ c.in_ok-format.ensures _ _ _ (Err NoRoom)
    (no_room _ _ _ _ (sym c.is_list.ensures ∙ c.if-not-is_list.false) all.0 (c.script_size-length.ensures ∙ ap (script_size _) all.1)
    c.if-length-gt-LONGEST_SCRIPT.false c.if-script-length.true)

pub put_script-requires : goal.put_script-requires
unfolding Measures
put_script-requires c =
    let all = c.in_ok-size.ensures in
    record {
      list = sym c.is_list.ensures ∙ c.if-not-is_list.false;
      carried = all.0;
      sized = all.1;
      short = omega (arith, c.script_size-length.ensures, c.if-length-gt-LONGEST_SCRIPT.false);
      room = omega (arith, c.script_size-length.ensures, c.if-script-length.false);
    }

pub returns : goal.returns
unfolding Measures
returns c =
    let all = c.in_ok-size.ensures in
    by_number _ c.in_ok-format.ensures _ _ _ (Ok _)
    (is-built _ _ _ _ (sym c.is_list.ensures ∙ c.if-not-is_list.false) all.0 (c.script_size-length.ensures ∙ ap (script_size _) all.1)
    c.if-length-gt-LONGEST_SCRIPT.false c.if-script-length.false c.put_script.ensures c.operations_in.ensures)

-- `cases::line::put_case` meets its contract: the bytes of the digits are what the run is given. Assumes nothing.
use mathlib.Core.Path.{sym, ap, ◌∙◌}
use lib.ListN.{length}
use lib.Seq.{length-take-le}
use Rattle.octets.specs.Bytes.{overwrite}
use Rattle.lines.proofs.Written.{taken}
use Rattle.lines.proofs.Hex.{digits_few, digits_hex, digits_bytes}
use Rattle.cases.proofs.Shape.{label_short_lem, journal_digits, script_digits}
use Rattle.cases.proofs.Ran.{case_line_lem}
use native.Mathlib.Omega.{arith}
use Rattle.cases.proofs.line.put_case.Goals as goal

pub decode-requires : goal.decode-requires
decode-requires c =
    let h = journal_digits _ _ _ c.requires.1 in
    (digits_hex _ _ h, digits_few _ _ h)

pub decode-n-requires : goal.decode-n-requires
decode-n-requires c =
    let h = script_digits _ _ _ c.requires.1 in
    (digits_hex _ _ h, digits_few _ _ h)

pub slice_bounds-script_bytes-end : goal.slice_bounds-script_bytes-end
slice_bounds-script_bytes-end c =
    let few = digits_bytes _ c.args.script.now (script_digits _ _ _ c.requires.1) in
    omega (arith, c.decode-n.ensures.1, few)

pub slice_bounds-put_run-end-2 : goal.slice_bounds-put_run-end-2
slice_bounds-put_run-end-2 c =
    let few = digits_bytes _ c.args.script.now (script_digits _ _ _ c.requires.1) in
    sym (length-take-le _ _ (omega (arith, c.decode-n.ensures.1, few)))

pub put_run-requires : goal.put_run-requires
put_run-requires c =
    (omega arith, label_short_lem _ _ _ c.requires.1, omega arith)

pub returns : goal.returns
returns c =
    let a = c.args in
    let d = c.decode-n.ensures in
    let t = taken _ _ _ _ d.0 d.1 (omega (arith, digits_bytes _ a.script.now (script_digits _ _ _ c.requires.1))) in
    let l = case_line_lem a.label.now a.call a.journal.now a.script.now _ _ c.decode.ensures.0 t in
    let p = c.put_run.ensures in
    (p.0 ∙ ap (overwrite a.out.now 0) l, p.1 ∙ ap length l, p.2)

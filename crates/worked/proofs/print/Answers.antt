-- `worked::print` meets its contract: what is printed is that of the input's shape.
-- There are two ways. For an input of another shape the one line is put, and it is what the definition prints (`printed-bad`). Else
-- the script's digits lie in the input and are hex digits of at most 8,192 bytes (`found_bytes`), so they may be
-- decoded; the first bytes of the buffer are then the script (`taken`), and the lines of its run are what the definition prints
-- (`printed-run`). Assumes nothing.
use mathlib.Core.Path.{sym, ap, ◌∙◌}
use Prim.Native.Nat.{ℕ}
use mathlib.Core.List.{List}
use lib.ListN.{length}
use lib.Seq.{length-take-le}
use Rattle.octets.specs.Bytes.{overwrite}
use Rattle.lines.proofs.Written.{taken}
use Rattle.lines.proofs.Hex.{found_few, found_hex, found_bytes}
use Rattle.worked.specs.Printed.{ran_on, result_lines}
use Rattle.worked.proofs.Shape.{printed-bad, printed-run}
use native.Mathlib.Omega.{arith}
use Rattle.worked.proofs.print.Goals as goal

pub returns-in_default : goal.returns-in_default
returns-in_default c =
    rw (printed-bad c.args.input.now (sym c.input_of.ensures.0 ∙ c.in_default.is)) c.put_bad.ensures

pub decode-n-requires : goal.decode-n-requires
decode-n-requires c =
    let lies = c.in-Some.ensures.1 in
    (found_hex lies, found_few lies)

pub slice_bounds-script-end : goal.slice_bounds-script-end
slice_bounds-script-end c =
    let few = found_bytes c.in-Some.ensures.1 in
    omega (arith, few)

pub slice_bounds-put_run-end : goal.slice_bounds-put_run-end
slice_bounds-put_run-end c =
    let few = found_bytes c.in-Some.ensures.1 in
    sym (length-take-le _ _ (omega (arith, few)))

pub returns : goal.returns
returns c =
    let a = c.args in
    let i = c.input_of.ensures in
    let asked = c.in-Some.asked in
    let d = c.decode-n.ensures in
    let p = c.put_run.ensures in
    let t = taken _ _ _ _ d.0 d.1 (omega (arith, found_bytes c.in-Some.ensures.1)) in
    let e = ap (λ (s : List ℕ). result_lines (ran_on asked.call s)) t ∙ sym (printed-run a.input.now asked (sym i.0 ∙ c.in-Some.is)) in
    (p.0 ∙ ap (overwrite a.out.now 0) e, p.1 ∙ ap length e, p.2)

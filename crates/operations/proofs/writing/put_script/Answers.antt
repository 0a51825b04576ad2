-- `operations::writing::put_script` meets its contract: all operations are written, in a template behind its tag and its length.
-- Assumes nothing.
use mathlib.Core.Path.{ap, ◌∙◌}
use mathlib.Core.List.{◌∷◌, ◌++◌}
use Prim.Native.Nat.{ℕ}
use native.Mathlib.Omega.{arith}
use Rattle.octets.specs.Bytes.{overwrite}
use Rattle.tlv.specs.Lengths.{length_bytes}
use Rattle.tlv.proofs.Written.{length_some}
use Rattle.operations.specs.Rows.{operations_of}
use Rattle.operations.specs.Carried.{number_of}
use Rattle.operations.specs.Scripts.{all_written}
use Rattle.operations.proofs.Scripted.{all-length, tagged, compact-script, template-script, compact_room, template_room}
use Rattle.operations.proofs.writing.put_script.Goals as goal

pub put_all-requires : goal.put_all-requires
put_all-requires c = (c.requires.list, c.requires.carried, omega (arith, compact_room c.requires (ap number_of c.in-Compact.is)))

pub returns-in-Compact : goal.returns-in-Compact
returns-in-Compact c =
    c.put_all.ensures ∙ ap (overwrite c.args.out.now 0) (compact-script _ _ _ (ap number_of c.in-Compact.is))

pub fill-requires : goal.fill-requires
fill-requires c = omega (arith, template_room c.requires (ap number_of c.in-Expanded.is))

pub put_length-from-requires : goal.put_length-from-requires
put_length-from-requires c =
    let room = template_room c.requires (ap number_of c.in-Expanded.is) in
    let one = length_some c.args.size in
    (omega arith, omega arith)

pub put_all-requires-in-Expanded : goal.put_all-requires-in-Expanded
put_all-requires-in-Expanded c =
    let room = template_room c.requires (ap number_of c.in-Expanded.is) in
    (c.requires.list, c.requires.carried, omega (arith, c.requires.sized, c.put_length-from.ensures.1))

pub returns-in-Expanded : goal.returns-in-Expanded
returns-in-Expanded c =
    let format = number_of c.args.format in
    let expanded = ap number_of c.in-Expanded.is in
    let room = template_room c.requires expanded in
    let v = all_written format c.args.«data».now (operations_of c.args.list.now) in
    let l = all-length format 0 c.args.«data».now (operations_of c.args.list.now) c.requires.carried in
    let put = c.put_length-from.ensures in
    tagged 0xAA c.args.size 0 c.args.out.now v c.fill.ensures put.0 put.1 c.put_all-in-Expanded.ensures (omega (arith, c.requires.sized))
    ∙ ap (overwrite c.args.out.now 0)
    (ap (λ (n : ℕ). 0xAA ∷ (length_bytes n ++ v)) c.requires.sized ∙ template-script _ _ _ (λ none. omega arith) c.requires.carried)

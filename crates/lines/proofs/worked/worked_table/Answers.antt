-- `lines::worked::worked_table` meets its contract: the bytes of the digits are the table, by computation. Assumes nothing.
use mathlib.Core.Path.{refl, ◌∙◌}
use Rattle.octets.specs.Choice.{pick}
use Rattle.octets.specs.Bytes.{overwrite}
use Rattle.engine.specs.Hex as text
use Rattle.engine.specs.Worked.{worked_table, worked}
use Rattle.lines.specs.Digits.{digit, all_hex, decoded}
use native.Mathlib.Omega.{arith}
use Rattle.lines.proofs.worked.worked_table.Goals as goal

pub decode-requires : goal.decode-requires
unfolding all_hex digit pick
decode-requires c = (refl, omega arith)

pub returns : goal.returns
unfolding overwrite decoded digit pick text.hex text.digit worked_table worked
returns c = (c.decode.ensures.0 ∙ refl, omega arith)

-- `desk::builds::put_built` meets its contract: the three lines are written one behind the other, and they are those of the build.
-- Assumes nothing.
use mathlib.Core.Path.{ap, ◌∙◌}
use Prim.Native.Nat.{◌≤◌}
use native.Mathlib.Nat.{zero-add}
use lib.ListN.{length, length-take}
use Rattle.octets.specs.Bytes.{overwrite}
use Rattle.operations.specs.declared.Numbers.{Numbers}
use Rattle.operations.specs.Builds.{Building, BuiltFits, numbered}
use Rattle.lines.specs.Digits.{ascii}
use Rattle.lines.proofs.Written.{put, behind}
use Rattle.desk.specs.Builds.{building_lines}
use Rattle.desk.specs.Promised.{most_built}
use native.Mathlib.Omega.{arith}
use Rattle.desk.proofs.builds.put_built.Goals as goal

pub put_bytes-requires : goal.put_bytes-requires
put_bytes-requires c = simp length-take (omega arith)

pub returns : goal.returns
unfolding building_lines ascii
returns c =
    let a = c.args in
    let p₁ = c.put_number-second.ensures in
    let p₂ = c.put_number-third.ensures in
    let p₃ = c.put_bytes.ensures in
    let e = ap (λ (n : Numbers). numbered n c.build.new.script) c.in_numbers-built.ensures ∙ c.build.ensures.0 in
    let w = behind (put p₁.0 p₁.1) (behind (put p₂.0 p₂.1) (put p₃.0 p₃.1)) in
    let fits : BuiltFits c.in_numbers-built.result = rw c.in_numbers-built.ensures c.build.ensures.1 in
    let short = fits.length in
    let most : c.put_bytes.result ≤ most_built = omega (arith, p₁.2, p₂.2, simp length-take at p₃.2, short) in (
      w.memory (omega (arith, most)) ∙ ap (λ (b : Building). overwrite a.out.now 0 (building_lines b)) e,
      w.place ∙ zero-add _ ∙ ap (λ (b : Building). length (building_lines b)) e,
      most,
    )

-- `cases::line::put_labelled` meets its contract: the label and the four values are written one behind the other. Assumes nothing.
use mathlib.Core.Path.{◌≡◌, ◌∙◌}
use Prim.Native.Nat.{◌+◌, ◌≤◌}
use native.Mathlib.Nat.{zero-add}
use lib.ListN.{length}
use Rattle.lines.specs.Digits.{ascii}
use Rattle.lines.proofs.Written.{put, behind}
use Rattle.cases.specs.Cases.{labelled, most_in_line}
use native.Mathlib.Omega.{arith}
use Rattle.cases.proofs.line.put_labelled.Goals as goal

pub returns : goal.returns
unfolding labelled ascii
returns c =
    let start : length c.args.label.now ≡ 0 + length c.args.label.now = omega arith in
    let p₁ = c.put_number-second.ensures in
    let p₂ = c.put_number-third.ensures in
    let p₃ = c.put_bytes-fourth.ensures in
    let p₄ = c.put_bytes.ensures in
    let w = behind (put c.copy.ensures start) (behind (put p₁.0 p₁.1) (behind (put p₂.0 p₂.1) (behind (put p₃.0 p₃.1) (put p₄.0 p₄.1)))) in
    let most : c.put_bytes.result ≤ most_in_line = omega (arith, p₁.2, p₂.2, p₃.2, p₄.2, c.requires) in
    (w.memory (omega (arith, most, c.requires)), w.place ∙ zero-add _, most)

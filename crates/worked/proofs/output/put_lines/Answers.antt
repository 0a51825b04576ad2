-- `worked::output::put_lines` meets its contract: the five lines are written one behind the other.
-- Each line is put at the place where the one before it ended, so the five are one run of bytes from the start on (`behind`). What the
-- journal's head says of used bytes and scripts is what the definition counts (`own_used`, `own_scripts`). Every line promises how
-- long it is at most, and these bounds together are what `out` has room for. Assumes nothing.
use mathlib.Core.Path.{ap₂, ◌∙◌}
use Prim.Native.Nat.{ℕ, ◌≤◌}
use native.Mathlib.Nat.{zero-add}
use native.Mathlib.Omega.{arith}
use lib.ListN.{length}
use Rattle.octets.specs.Bytes.{overwrite}
use Rattle.journal.proofs.Pushed.{own_used, own_scripts}
use Rattle.lines.specs.Digits.{ascii}
use Rattle.lines.proofs.Written.{put, behind}
use Rattle.worked.specs.Printed.{five_lines, most_printed}
use Rattle.worked.proofs.output.put_lines.Goals as goal

pub returns : goal.returns
unfolding five_lines ascii
returns c =
    let a = c.args in
    let p₁ = c.put_number-second.ensures in
    let p₂ = c.put_number-third.ensures in
    let p₃ = c.put_bytes-fourth.ensures in
    let p₄ = c.put_number-fifth.ensures in
    let p₅ = c.put_number.ensures in
    let own = c.head_of-head.ensures.0 in
    let u = own_used a.journal.now own in
    let t = c.from.ensures ∙ own_scripts a.journal.now own in
    let w = behind (put p₁.0 p₁.1) (behind (put p₂.0 p₂.1) (behind (put p₃.0 p₃.1) (behind (put p₄.0 p₄.1) (put p₅.0 p₅.1)))) in
    let most : c.put_number.result ≤ most_printed = omega (arith, p₁.2, p₂.2, p₃.2, p₄.2, p₅.2, c.requires) in (
      w.memory (omega (arith, most, c.requires)) ∙ ap₂ (λ (x y : ℕ). overwrite a.out.now 0 (five_lines a.refusal a.executed a.response.now x y)) u t,
      w.place ∙ zero-add _ ∙ ap₂ (λ (x y : ℕ). length (five_lines a.refusal a.executed a.response.now x y)) u t,
      most,
    )

-- `desk::reads::print` meets its contract: what is printed is what the definition reads, line by line.
-- There are four ways out: a first line that is no format, a second that is no answer's digits, a third line, and an answer. Every way
-- knows what was read before it, and `told` reads the same (`told-first`, `told_second`, `told_third`, `told-answer`). The answer's digits
-- are those of at most 65,536 bytes (`found_bytes`); the first bytes of the buffer are then the answer (`taken`). Assumes nothing.
use mathlib.Core.Path.{sym, ap, ◌∙◌}
use mathlib.Core.List.{List}
use Prim.Native.Nat.{ℕ}
use lib.ListN.{length, length-take}
use lib.Seq.{length-take-le}
use native.Mathlib.Omega.{arith}
use Rattle.octets.specs.Bytes.{overwrite}
use Rattle.answers.specs.Answers.{read_answer}
use Rattle.lines.specs.Digits.{ascii}
use Rattle.lines.proofs.Hex.{found_few, found_hex, found_bytes}
use Rattle.lines.proofs.Written.{taken}
use Rattle.desk.specs.Reads.{answered_lines}
use Rattle.desk.proofs.AnswerRead.{told-first, told_second, told_third, told-answer}
use Rattle.desk.proofs.reads.print.Goals as goal

pub returns-in_default : goal.returns-in_default
unfolding ascii
returns-in_default c =
    let p = c.put_bad_line.ensures in
    rw (told-first _ (sym c.number_at.ensures.0 ∙ c.in_default.is)) (p.0, p.1, omega (arith, p.2))

pub returns-in_default-hex_at : goal.returns-in_default-hex_at
unfolding ascii
returns-in_default-hex_at c =
    let p = c.put_bad_line-in_default-hex_at.ensures in
    let first = sym c.number_at.ensures.0 ∙ c.in-Some.is in
    rw (told_second _ _ _ first (sym c.hex_at.ensures.0 ∙ c.in_default-hex_at.is)) (p.0, p.1, omega (arith, p.2))

pub returns-then-to-text : goal.returns-then-to-text
unfolding ascii
returns-then-to-text c =
    let p = c.put_bad_line-then-to-text.ensures in
    let first = sym c.number_at.ensures.0 ∙ c.in-Some.is in
    let second = sym c.hex_at.ensures.0 ∙ c.in-Some-hex_at.is in
    rw (told_third _ _ _ first _ _ second (omega (arith, c.if-to-text.true))) (p.0, p.1, omega (arith, p.2))

pub decode-n-requires : goal.decode-n-requires
decode-n-requires c =
    let lies = c.in-Some-hex_at.ensures.1 in
    (found_hex lies, found_few lies)

pub slice_bounds-answer-end : goal.slice_bounds-answer-end
slice_bounds-answer-end c =
    let few = found_bytes c.in-Some-hex_at.ensures.1 in
    omega (arith, few)

pub slice_bounds-put_answered-end : goal.slice_bounds-put_answered-end
slice_bounds-put_answered-end c =
    let few = found_bytes c.in-Some-hex_at.ensures.1 in
    sym (length-take-le _ _ (omega (arith, few)))

pub put_answered-requires : goal.put_answered-requires
put_answered-requires c =
    let few = found_bytes c.in-Some-hex_at.ensures.1 in
    (simp length-take (omega (arith, few)), omega arith)

pub returns : goal.returns
unfolding ascii
returns c =
    let format = c.in-Some.format in
    let p = c.put_answered.ensures in
    let d = c.decode-n.ensures in
    let first = sym c.number_at.ensures.0 ∙ c.in-Some.is in
    let second = sym c.hex_at.ensures.0 ∙ c.in-Some-hex_at.is in
    let few = found_bytes c.in-Some-hex_at.ensures.1 in
    let t = taken _ _ _ _ d.0 d.1 (omega (arith, few)) in
    let e = ap (λ (s : List ℕ). answered_lines format s (read_answer format s)) t ∙ sym (told-answer _ _ _ first _ _ second c.if-to-text.false) in
    (p.0 ∙ ap (overwrite c.args.out.now 0) e, p.1 ∙ ap length e, p.2)

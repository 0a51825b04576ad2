-- `desk::lists::put_row` meets its contract: the eight bytes are those of the row, put one behind the other. Assumes nothing.
use Rattle.std.proofs.Common.{ℕ, ◌+◌, ◌∷◌, ◌++◌, ap, refl, ◌∙◌, arith, length-set}
use Rattle.octets.specs.Bytes.{bytes2, overwrite}
use Rattle.octets.proofs.Writes.{set-write}
use Rattle.lines.proofs.Written.{put, behind}
use Rattle.desk.specs.Lists.{row_of}
use Rattle.desk.proofs.lists.put_row.Goals as goal

pub returns : goal.returns
unfolding row_of bytes2
returns c =
    let p = c.args in
    let a = p.a in
    let w =
    behind (put {q = p.at + 1} (set-write p.rows.now p.at a.kind (omega arith)) refl)
    (behind (put {q = p.at + 2} (set-write _ (p.at + 1) a.mode (simp length-set (omega arith))) (omega arith))
    (behind (put {q = p.at + 4} c.put_num.ensures (omega arith))
    (behind (put {q = p.at + 6} c.put_num-2.ensures (omega arith)) (put {q = p.at + 8} c.put_num-3.ensures (omega arith))))) in
    w.memory (omega arith) ∙ ap (λ (place : ℕ). overwrite p.rows.now p.at (a.kind ∷ a.mode ∷ (bytes2 a.number ++ (bytes2 place ++ bytes2 a.count)))) c.place_of-place.ensures

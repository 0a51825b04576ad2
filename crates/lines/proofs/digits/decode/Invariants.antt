use Rattle.std.proofs.Common.{◌≡◌, true, ◌*◌, length, drop}
use Rattle.octets.specs.Bytes.{overwrite}
use Rattle.lines.specs.Digits.{all_hex, decoded}
use Rattle.lines.proofs.digits.decode.Given as goal

abbrev pub invariant-loop-i : goal.invariant-loop-i
invariant-loop-i l = (length l.out ≡ length l.initial.out) × (all_hex (drop (2 * l.i) l.digits) ≡ true) × (overwrite l.out l.i (decoded (drop (2 * l.i) l.digits)) ≡ overwrite l.initial.out 0 (decoded l.digits))

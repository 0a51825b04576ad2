use Rattle.std.proofs.Common.{◌≡◌, ◌+◌, ◌*◌, length, drop}
use Rattle.octets.specs.Bytes.{overwrite}
use Rattle.lines.specs.Digits.{hex_of}
use Rattle.lines.proofs.digits.put_hex.Given as goal

abbrev pub invariant-loop-i : goal.invariant-loop-i
invariant-loop-i l = (length l.out ≡ length l.initial.out) × (overwrite l.out (l.at + 2 * l.i) (hex_of (drop l.i l.bytes)) ≡ overwrite l.initial.out l.at (hex_of l.bytes))

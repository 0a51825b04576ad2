-- `operations::writing::put_capdu` meets its contract: tag, length, command and Le are written one behind the other. Assumes nothing.
use mathlib.Core.Path.{◌≡◌, sym, ap}
use Prim.Native.Nat.{◌+◌}
use lib.ListN.{length}
use native.Mathlib.Omega.{arith}
use Rattle.octets.proofs.Picks.{told}
use Rattle.octets.proofs.Writes.{write-none}
use Rattle.tlv.specs.Lengths.{length_bytes}
use Rattle.operations.specs.Sizes.{capdu_size, tlv_size}
use Rattle.operations.proofs.Counted.{capdu_within, tlv_within}
use Rattle.operations.proofs.Scripted.{le_there, le_none, capdu_size_lem, capdu-written}
use Rattle.operations.proofs.writing.put_capdu.Goals as goal

pub fill-requires : goal.fill-requires
fill-requires c = omega (arith, tlv_within (capdu_size c.args.o))

pub put_length-from-requires : goal.put_length-from-requires
put_length-from-requires c =
    let t = tlv_within (capdu_size c.args.o) in
    let w = capdu_within c.args.o in
    (omega arith, omega arith)

pub put_command-end-requires : goal.put_command-end-requires
unfolding tlv_size
put_command-end-requires c =
    let begins : c.put_length-from.result ≡ c.args.at + 1 + length (length_bytes (capdu_size c.args.o)) = rw c.capdu_size.ensures at c.put_length-from.ensures.1 in
    let z = capdu_size_lem c.args.o in
    (c.requires.0, omega arith)

pub fill-requires-then-has_le : goal.fill-requires-then-has_le
unfolding tlv_size
fill-requires-then-has_le c =
    let begins : c.put_length-from.result ≡ c.args.at + 1 + length (length_bytes (capdu_size c.args.o)) = rw c.capdu_size.ensures at c.put_length-from.ensures.1 in
    let z = capdu_size_lem c.args.o in
    let l = ap length (le_there c.args.o.kind (told c.has_le.ensures c.if-has_le.true)) in
    omega arith

pub overflow_add-result : goal.overflow_add-result
unfolding tlv_size
overflow_add-result c =
    let begins : c.put_length-from.result ≡ c.args.at + 1 + length (length_bytes (capdu_size c.args.o)) = rw c.capdu_size.ensures at c.put_length-from.ensures.1 in
    let z = capdu_size_lem c.args.o in
    let l = ap length (le_there c.args.o.kind (told c.has_le.ensures c.if-has_le.true)) in
    omega arith

pub returns-then-has_le : goal.returns-then-has_le
returns-then-has_le c =
    let e = le_there c.args.o.kind (told c.has_le.ensures c.if-has_le.true) in
    capdu-written _ _ _ c.args.o c.requires.0 c.requires.1 e
    c.fill.ensures c.capdu_size.ensures c.put_length-from.ensures.0 c.put_length-from.ensures.1
    c.put_command-end.ensures.0 c.put_command-end.ensures.1 c.fill-then-has_le.ensures

pub returns : goal.returns
returns c =
    let e = le_none c.args.o.kind (told c.has_le.ensures c.if-has_le.false) in
    let h = capdu-written _ _ _ c.args.o c.requires.0 c.requires.1 e
    c.fill.ensures c.capdu_size.ensures c.put_length-from.ensures.0 c.put_length-from.ensures.1
    c.put_command-end.ensures.0 c.put_command-end.ensures.1 (sym (write-none _ _)) in
    (h.0, omega (arith, h.1))

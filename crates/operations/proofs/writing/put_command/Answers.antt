-- `operations::writing::put_command` meets its contract: the header is written, and behind it the bytes where the operation brings some.
-- Assumes nothing.
use native.Mathlib.Omega.{arith}
use Rattle.octets.proofs.Picks.{told}
use Rattle.operations.proofs.Counted.{compact_within}
use Rattle.operations.proofs.Scripted.{class-byte, header-written, bytes-length, size_other, read-written, command-written}
use Rattle.operations.proofs.writing.put_command.Goals as goal

pub overflow_cast-class : goal.overflow_cast-class
overflow_cast-class c = omega (arith, class-byte c.instruction_of-i.result)

pub copy-requires : goal.copy-requires
copy-requires c = omega (arith, compact_within c.args.o)

pub returns-then-is_read : goal.returns-then-is_read
returns-then-is_read c =
    read-written _ _ _ _
    (header-written _ _ _ c.class_of-class.ensures c.instruction_of-i.ensures.0 c.p1_of.ensures c.p2_of.ensures c.copy.ensures)
    (told c.is_read.ensures c.if-is_read.true)

pub copy-requires-2 : goal.copy-requires-2
copy-requires-2 c =
    let other = told c.is_read.ensures c.if-is_read.false in
    let l = bytes-length c.args.«data».now c.args.o (c.requires.0.inside other) in
    let e = size_other c.args.o other in
    omega arith

pub returns : goal.returns
returns c =
    let other = told c.is_read.ensures c.if-is_read.false in
    command-written _ _ _ _
    (header-written _ _ _ c.class_of-class.ensures c.instruction_of-i.ensures.0 c.p1_of.ensures c.p2_of.ensures c.copy.ensures)
    other (c.requires.0.inside other) c.requires.1 c.copy-2.ensures

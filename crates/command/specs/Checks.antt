-- "Order for one command": the word of each check.
use Rattle.std.specs.Prelude.{ℕ}
use Rattle.command.specs.declared.checks.Check.{Check}
use Rattle.command.specs.declared.checks.Check.TheVariants.{BrokenForm, UnknownInstruction, WrongClass, BytesAfter, WrongCase, WrongParameters, WrongDomain, WrongPathLength, NotFound, NothingWaits, MoreThanWaits, NoFile, WrongKind, WrongMode, Deactivated, Never, OffsetOutside, NoRecord, WrongLength, SumTooLong, JournalFull, AnswerTooLong}

unfoldable pub check_word : Check → ℕ
-- "broken form (too few bytes, no case's size) 6700; unknown instruction 6D00; class 6E00; compact B0, B2, C0 with bytes after it
-- 6985; wrong case, Lc 0, or P3 of 04, 44, 6700; P1P2 6A86 ..; domain FF 6982 ..;"
check_word BrokenForm = 0x6700
check_word UnknownInstruction = 0x6D00
check_word WrongClass = 0x6E00
check_word BytesAfter = 0x6985
check_word WrongCase = 0x6700
check_word WrongParameters = 0x6A86
check_word WrongDomain = 0x6982
-- "SELECT after the domain check: data length 6700, then 6A82."
check_word WrongPathLength = 0x6700
check_word NotFound = 0x6A82
-- "C0 likewise: nothing waiting 6985, P3 above what waits 6700."
check_word NothingWaits = 0x6985
check_word MoreThanWaits = 0x6700
-- "no file 6986; kind .. 6981; DC on cyclic outside mode 03 6A86; deactivated 6984 ..; NEVER bit 6982; offset not below length
-- 6B00, record 6A83; lengths against file or record 6700 ..; sum too long 9850; journal 6581."
check_word NoFile = 0x6986
check_word WrongKind = 0x6981
check_word WrongMode = 0x6A86
check_word Deactivated = 0x6984
check_word Never = 0x6982
check_word OffsetOutside = 0x6B00
check_word NoRecord = 0x6A83
check_word WrongLength = 0x6700
check_word SumTooLong = 0x9850
check_word JournalFull = 0x6581
-- "the command changes nothing, gets 6F00 and stops"
check_word AnswerTooLong = 0x6F00

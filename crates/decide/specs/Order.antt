-- "Order for one command": the checks in the paper's order.
use Rattle.std.specs.Prelude.{ℕ, List, [], ◌∷◌, ◌++◌, eqb}
use Rattle.octets.specs.Choice.{pick}
use Rattle.command.specs.declared.checks.Check.{Check}
use Rattle.command.specs.declared.checks.Check.TheVariants.{BrokenForm, UnknownInstruction, WrongClass, BytesAfter, WrongCase, WrongParameters, WrongDomain, WrongPathLength, NotFound, NothingWaits, MoreThanWaits, NoFile, WrongKind, WrongMode, Deactivated, Never, OffsetOutside, NoRecord, WrongLength, SumTooLong, JournalFull}
use Rattle.command.specs.Instructions as ins

-- "broken form (too few bytes, no case's size) 6700; unknown instruction 6D00; class 6E00; compact B0, B2, C0 with bytes after it
-- 6985; wrong case, Lc 0, or P3 of 04, 44, 6700; P1P2 6A86 ..; domain FF 6982 ..;"
unfoldable pub formal_checks : List Check
formal_checks =
    BrokenForm
    ∷ UnknownInstruction
    ∷ WrongClass
    ∷ BytesAfter
    ∷ WrongCase
    ∷ WrongParameters
    ∷ WrongDomain
    ∷ []

-- "SELECT after the domain check: data length 6700, then 6A82."
unfoldable pub select_checks : List Check
select_checks = WrongPathLength ∷ NotFound ∷ []

-- "C0 likewise: nothing waiting 6985, P3 above what waits 6700."
unfoldable pub response_checks : List Check
response_checks = NothingWaits ∷ MoreThanWaits ∷ []

-- "no file 6986; kind .. 6981; DC on cyclic outside mode 03 6A86; deactivated 6984 ..; NEVER bit 6982; offset not below length
-- 6B00, record 6A83; lengths against file or record 6700 ..;"
unfoldable pub bound_checks : List Check
bound_checks =
    NoFile
    ∷ WrongKind
    ∷ WrongMode
    ∷ Deactivated
    ∷ Never
    ∷ OffsetOutside
    ∷ NoRecord
    ∷ WrongLength
    ∷ []

-- "sum too long 9850; journal 6581."
unfoldable pub file_checks : List Check
file_checks = bound_checks ++ (SumTooLong ∷ JournalFull ∷ [])

-- the checks after the formal ones
unfoldable pub later_checks : ℕ → List Check
later_checks i = pick (eqb i ins.select) select_checks (pick (eqb i ins.get_response) response_checks file_checks)

-- the whole order for an instruction
unfoldable pub order : ℕ → List Check
order i = formal_checks ++ later_checks i

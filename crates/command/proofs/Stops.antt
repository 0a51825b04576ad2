-- Which words stop a script: that of every check does; a word that can be kept for waiting bytes, and the one that says how many
-- wait, do not. Assumes nothing.
use mathlib.Core.Path.{◌≡◌, refl}
use mathlib.Core.Bool.{Bool, true, false, ◌||◌}
use Prim.Native.Nat.{ℕ, ◌+◌, ◌≤◌}
use native.Mathlib.Omega.{arith}
use lib.Dec.{eqb}
use borrow.Author.Tests.{le-leb}
use Rattle.octets.proofs.Picks.{and_both}
use Rattle.session.specs.Words.{normal, end_of_data, selected_deactivated, bytes_wait}
use Rattle.session.specs.Session.{most_waiting}
use Rattle.command.specs.declared.checks.Check.{Check}
use Rattle.command.specs.declared.checks.Check.TheVariants.{BrokenForm, UnknownInstruction, WrongClass, BytesAfter, WrongCase, WrongParameters, WrongDomain, WrongPathLength, NotFound, NothingWaits, MoreThanWaits, NoFile, WrongKind, WrongMode, Deactivated, Never, OffsetOutside, NoRecord, WrongLength, SumTooLong, JournalFull, AnswerTooLong}
use Rattle.command.specs.Checks.{check_word}
use Rattle.command.specs.Outcomes.{goes_on}

pub check_stops : (k : Check) → goes_on (check_word k) ≡ false
unfolding check_word
check_stops BrokenForm = refl
check_stops UnknownInstruction = refl
check_stops WrongClass = refl
check_stops BytesAfter = refl
check_stops WrongCase = refl
check_stops WrongParameters = refl
check_stops WrongDomain = refl
check_stops WrongPathLength = refl
check_stops NotFound = refl
check_stops NothingWaits = refl
check_stops MoreThanWaits = refl
check_stops NoFile = refl
check_stops WrongKind = refl
check_stops WrongMode = refl
check_stops Deactivated = refl
check_stops Never = refl
check_stops OffsetOutside = refl
check_stops NoRecord = refl
check_stops WrongLength = refl
check_stops SumTooLong = refl
check_stops JournalFull = refl
check_stops AnswerTooLong = refl

-- the last of four tests holds
last_holds : (a b c d : Bool) → d ≡ true → (a || (b || (c || d))) ≡ true
last_holds true b c d h = refl
last_holds false true c d h = refl
last_holds false false true d h = refl
last_holds false false false d h = h

pub wait_goes : (n : ℕ) → n ≤ most_waiting → goes_on (bytes_wait n) ≡ true
wait_goes n h =
    last_holds (eqb (bytes_wait n) normal) (eqb (bytes_wait n) end_of_data) (eqb (bytes_wait n) selected_deactivated) _
    (and_both _ _ (le-leb 0x6100 (0x6100 + n) (omega arith)) (le-leb (0x6100 + n) 0x61FF (omega arith)))

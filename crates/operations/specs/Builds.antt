-- "Refusals, in this order: not 1 to 40 operations, one that the format can't carry .., a script above the engine's length."
use Rattle.std.specs.Prelude.{ℕ, ◌≤◌, List, length, ltb, eqb, Result, Ok, Err}
use Rattle.octets.specs.Choice.{pick}
use Rattle.octets.specs.Bytes.{overwrite}
use Rattle.step.specs.Limits.{longest_script}
use Rattle.operations.specs.declared.rows.Operation.{Operation}
use Rattle.operations.specs.declared.Built.{Built}
use Rattle.operations.specs.declared.Refusal.{Refusal}
use Rattle.operations.specs.declared.Refusal.TheVariants.{NotAList, NotCarried, TooLong, NoRoom}
use Rattle.operations.specs.declared.Numbers.{Numbers}
use Rattle.operations.specs.Rows.{most_operations, is_list, operations_in, operations_of}
use Rattle.operations.specs.Carried.{first_not_carried}
use Rattle.operations.specs.Scripts.{script_of}

-- what a build gives: its answer in numbers, and the script memory after it
pub record Building : Type 0 where
  pub answer : Numbers
  pub memory : List ℕ

-- the numbers of a refusal: `operation` is the one at fault, and 0 where none is
abbrev pub refused : ℕ → ℕ → Numbers
refused refusal operation = record { refusal = refusal; operations = operation; length = 0 }

-- the numbers of an answer: 0 of a script that was built, and of each refusal its own
abbrev pub in_numbers : Result Built Refusal → Numbers
in_numbers (Ok b) = record { refusal = 0; operations = b.operations; length = b.length }
in_numbers (Err NotAList) = refused 1 0
in_numbers (Err (NotCarried operation)) = refused 2 operation
in_numbers (Err TooLong) = refused 3 0
in_numbers (Err NoRoom) = refused 4 0

abbrev pub numbered : Numbers → List ℕ → Building
numbered answer memory = record { answer = answer; memory = memory }

abbrev pub building : Result Built Refusal → List ℕ → Building
building built memory = numbered (in_numbers built) memory

-- a refused build changes nothing: a script that finds room, or 3: longer than the engine takes, or 4: the memory is shorter than the script
unfoldable pub placed : List ℕ → ℕ → List ℕ → Building
placed script operations memory =
    pick (ltb longest_script (length script))
    (building (Err TooLong) memory)
    (pick (ltb (length memory) (length script))
    (building (Err NoRoom) memory)
    (building (Ok (record { operations = operations; length = length script })) (overwrite memory 0 script)))

-- a list that is carried, or 2: the number of the first operation that is not
unfoldable pub built_list : ℕ → List Operation → ℕ → List ℕ → List ℕ → Building
built_list format os operations «data» memory =
    let bad : ℕ = first_not_carried format (length «data») 1 os in
    pick (eqb bad 0) (placed (script_of format «data» os) operations memory) (building (Err (NotCarried bad)) memory)

-- what a build gives, 1: for no list of 1 to 40 whole operations
unfoldable pub build : ℕ → List ℕ → List ℕ → List ℕ → Building
build format list «data» memory =
    pick (is_list (length list))
    (built_list format (operations_of list) (operations_in (length list)) «data» memory)
    (building (Err NotAList) memory)

-- a build's numbers are small: they find room in one number at the C boundary
pub record BuiltFits (b : Numbers) : Type 0 where
  pub refusal : b.refusal ≤ 4
  pub operations : b.operations ≤ most_operations
  pub length : b.length ≤ longest_script

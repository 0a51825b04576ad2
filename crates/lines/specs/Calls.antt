-- What the lines call a run with, and the run on the worked card: "1 to 3 decimal digits, two hex digits, one decimal digit".
use Rattle.std.specs.Prelude.{ℕ, List, Option, Some, None}
use Rattle.card.specs.Row.{lent}
use Rattle.engine.specs.Calls.{Result, arguments_of, run}
use Rattle.engine.specs.Worked.{worked}
use Rattle.lines.specs.Digits.{ascii}
use Rattle.lines.specs.Values.{number_at, then}
use Rattle.engine.specs.declared.Call.{Call}

-- the three numbers from a place on, the first behind a name, each with the same byte behind it; and the place behind them
unfoldable pub call_at : List ℕ → ℕ → List ℕ → ℕ → Option (Call × ℕ)
call_at bs at name stop =
    then None (number_at bs at name stop 10 1 3) λ application second.
    then None (number_at bs second (ascii "domain=") stop 16 2 2) λ domain third.
    then None (number_at bs third (ascii "format=") stop 10 1 1) λ format next.
    Some (record { application = application; domain = domain; format = format }, next)

-- a run of a script on the worked card with another journal
unfoldable pub run_on_worked : Call → List ℕ → List ℕ → List ℕ → Result
run_on_worked call script response journal =
    run (arguments_of call script response) (lent worked.table worked.files journal)

-- A run on the worked card: its answer fits the response memory, and memories that are the card's make it a run on that card. Assumes nothing.
use mathlib.Core.Path.{◌≡◌}
use mathlib.Core.List.{List}
use Prim.Native.Nat.{ℕ, ◌≤◌}
use native.Mathlib.Omega.{arith}
use lib.Dec.{eqb}
use lib.ListN.{length, length-append}
use Rattle.octets.specs.Bytes.{overwrite}
use Rattle.octets.proofs.Picks.{on_test}
use Rattle.card.specs.Row.{Card, lent}
use Rattle.command.specs.declared.Format.{Format}
use Rattle.command.specs.declared.Format.TheVariants.{Compact, Expanded}
use Rattle.engine.specs.Numbers.{Arguments}
use Rattle.engine.specs.Calls.{Result, accepted, unless_refused, run_script, run}
use Rattle.engine.specs.Worked.{worked}

abbrev Fits : Result → Type 0
Fits r = r.answer.length ≤ length r.response

script_fits_lem : (f : Format) (a : Arguments) (c : Card) → Fits (run_script f a c)
unfolding run_script accepted overwrite
script_fits_lem Compact a c = simp length-append (omega arith)
script_fits_lem Expanded a c = simp length-append (omega arith)

unless_fits : (n : ℕ) (c : Card) (response : List ℕ) (r : Result) → Fits r → Fits (unless_refused n c response r)
unfolding unless_refused
unless_fits n c response r fits = on_test Fits (eqb n 0) _ _ (λ _. fits) (λ _. omega arith)

pub answer-fits : (a : Arguments) (c : Card) (r : Result) → r ≡ run a c → r.answer.length ≤ length r.response
unfolding run
answer-fits a c r e = rw e (unless_fits _ c a.response _ (script_fits_lem _ a _))

-- a run on memories that are those of the worked card, and any journal
pub ran : (a : Arguments) (t f journal : List ℕ) (r : Result) → t ≡ worked.table → f ≡ worked.files → r ≡ run a (lent t f journal) → r ≡ run a (lent worked.table worked.files journal)
ran a t f journal r e g h = rw (e, g) at h

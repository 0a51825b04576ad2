-- What a command moves to, and the count of one more, are the script's step after it; and a loop over a script ends. Assumes nothing.
use mathlib.Core.Path.{◌≡◌}
use Prim.Native.Nat.{ℕ, ◌+◌, ◌-◌, ◌<◌}
use native.Mathlib.Omega.{arith}
use Rattle.card.specs.Row.{Card}
use Rattle.command.specs.declared.Step.{Step}
use Rattle.session.specs.declared.Session.{Session}
use Rattle.step.specs.declared.lent.Ended.{Ended}
use Rattle.step.specs.Steps.{Moved, moved_to, state_of, stepped}

-- a session, how the last command ended and the count, as the script's step
abbrev pub step_of : Session → Ended → Step
step_of s e = record { session = s; outcome = e.outcome; count = e.count }

-- a session and an outcome that a command moved to, and the count of one more, are the script's step after it
pub one_more : (before r : Step) (card after : Card) (m : Moved) → moved_to r.session r.outcome after ≡ m → r.count ≡ before.count + 1 → state_of r after ≡ stepped (state_of before card) m
unfolding stepped
one_more before r card after m e counted = λ i. record { step = record { session = (e i).session; outcome = (e i).outcome; count = counted i }; card = (e i).card }

-- further on there is less left
pub fewer : (a b n : ℕ) → a < b → a < n → n - b < n - a
fewer a b n on more = omega arith

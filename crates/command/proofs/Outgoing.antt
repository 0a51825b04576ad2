-- What an outcome hands out: how many bytes it has. Assumes nothing.
use mathlib.Core.Path.{◌≡◌, refl}
use mathlib.Core.List.{List}
use Prim.Native.Nat.{ℕ, ◌≤◌}
use native.Mathlib.Omega.{arith}
use lib.ListN.{length}
use lib.Seq.{length-take-le}
use Rattle.octets.proofs.Writes.{part_length}
use Rattle.card.specs.Sound.{most_file_bytes}
use Rattle.session.specs.Session.{most_waiting}
use Rattle.command.specs.declared.Outcome.{Outcome}
use Rattle.command.specs.declared.Outcome.TheVariants.{Well, FromFiles, FromWaiting, Error}
use Rattle.command.specs.Outcomes.{data_of, data_count}
use Rattle.command.specs.Promised.{OutcomeFits}

pub data_length_lem : (o : Outcome) (files waiting : List ℕ) → OutcomeFits (length files) o → length waiting ≡ most_waiting → length (data_of o files waiting) ≡ data_count o
unfolding data_of OutcomeFits
data_length_lem (Well word) files waiting fits all = refl
data_length_lem (FromFiles word place n) files waiting fits all = part_length files place n fits.0
data_length_lem (FromWaiting word n) files waiting fits all = length-take-le n waiting (omega (arith, fits))
data_length_lem (Error k) files waiting fits all = refl

pub data_few : (o : Outcome) (files : ℕ) → OutcomeFits files o → data_count o ≤ most_file_bytes
unfolding OutcomeFits
data_few (Well word) files fits = omega arith
data_few (FromFiles word place n) files fits = fits.1
data_few (FromWaiting word n) files fits = omega (arith, fits)
data_few (Error k) files fits = omega arith

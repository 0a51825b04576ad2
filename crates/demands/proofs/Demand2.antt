-- Demand 2: detection, the commands of a script, the fresh start, errors, the marked cases, and the places of a cyclic file's records.
-- Assumes nothing.
use Prim.Native.Nat.{ℕ, ◌<◌}
use mathlib.Core.Path.{refl}
use Rattle.card.specs.Records.{cyclic_place, record_place, record_offset}
use Rattle.card.proofs.Places.{newest-first, one_number_lem, some_number_lem, new-first, new_shifts}
use Rattle.demands.specs.Demand2.{Cyclic, Demand2}
use Rattle.demands.proofs.LawsRefused.{run-done}
use Rattle.demands.proofs.Detection.{detection}
use Rattle.demands.proofs.Commands.{compact-runs, expanded-runs}
use Rattle.demands.proofs.AllRead.{all_commands_lem, all_pieces_lem}
use Rattle.demands.proofs.Fresh.{fresh}
use Rattle.demands.proofs.Errors.{errors}
use Rattle.demands.proofs.Worked.{marked}
use Rattle.demands.proofs.Apart.{apart}

cyclic : (m k : ℕ) → k < m → Cyclic m k
unfolding record_offset record_place cyclic_place
cyclic m k h =
    record {
      place = λ r _. refl;
      in_file = λ f r _ count newest. rw (count, newest);
      newest = newest-first m k h;
      one_number = one_number_lem m k h;
      some_number = some_number_lem m k h;
      renewed = new-first m k h;
      grown = new_shifts m k h;
    }

pub demand2 : Demand2
demand2 =
    record {
      accepted = run-done;
      detection = detection;
      compact = compact-runs;
      expanded = expanded-runs;
      all_commands = all_commands_lem;
      all_pieces = all_pieces_lem;
      fresh = λ a c. fresh c a;
      errors = errors;
      marked = marked;
      cyclic = cyclic;
      nothing_crosses = apart;
    }

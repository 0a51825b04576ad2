-- What promises speak of besides the rules: where the data of a C-APDU lie, what running a script and its items asks, and how far its C-APDUs bring it.
use Rattle.std.specs.Prelude.{ℕ, ◌+◌, ◌≤◌, ◌<◌, ◌≡◌, Bool, List, length}
use Rattle.card.specs.Row.{Card}
use Rattle.tlv.specs.declared.template.Item.TheVariants.{Capdu}
use Rattle.tlv.specs.Templates.{item_at}
use Rattle.journal.specs.Promised.{Starts}
use Rattle.command.specs.declared.Reading.{Reading}
use Rattle.command.specs.Promised.{OfBytes}
use Rattle.step.specs.Limits.{longest_script, most_kept}
use Rattle.expanded.specs.declared.run.Gathered.{Gathered}
use Rattle.expanded.specs.declared.run.Reached.{Reached}
use Rattle.expanded.specs.Expanded.{room_to_gather, progress_of, run_from, begun}

-- the data of a C-APDU of bytes lie in it, and its numbers are bytes
pub record CapduFits (capdu : List ℕ) (r : Reading) : Type 0 where
  pub inside : r.from + r.size ≤ length capdu
  pub bytes : OfBytes r.command r.size

-- what a Bad format TLV asks: its code is a byte, there are few commands before it, and it has room after the R-APDUs that are kept
pub record StepBadAsks (code : ℕ) (before : Gathered) (out : List ℕ) : Type 0 where
  pub byte : code < 256
  pub few : before.step.count < 65535
  pub kept : before.rapdus.kept ≤ most_kept
  pub room : length out ≡ room_to_gather

-- how far the C-APDUs of a script bring it: what is left from the place that is reached is the whole run, and no C-APDU stands there
pub record Reaches (script : List ℕ) (definite : Bool) (from end application domain : ℕ) (card₀ card : Card) (out : List ℕ) (r : Reached) : Type 0 where
  pub inside : r.at ≤ end
  pub counted : r.gathered.step.count ≤ r.at
  pub kept : r.at < end → r.gathered.rapdus.kept ≤ most_kept
  pub room : r.gathered.rapdus.kept + r.gathered.rapdus.last ≤ room_to_gather
  pub none : (from size : ℕ) → item_at script r.at end ≡ Capdu from size → ⊥
  pub rounds : ℕ
  pub enough : end ≤ r.at + rounds
  pub whole : run_from rounds script domain definite r.at end (progress_of r.gathered card out) ≡ run_from (length script) script domain definite from end (begun application card₀)

-- what the run of a script asks: its template's value lies in it, it is no longer than a script may be, it starts on a card with its
-- mark, and there is room for its R-APDUs
pub record RunAsks (script : List ℕ) (at end : ℕ) (card : Card) (application : ℕ) (out : List ℕ) : Type 0 where
  pub ahead : at ≤ end
  pub inside : end ≤ length script
  pub short : length script ≤ longest_script
  pub starts : Starts card application
  pub room : length out ≡ room_to_gather

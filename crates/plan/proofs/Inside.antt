-- What lies inside a card: no change, and the new record of a cyclic file. Assumes nothing.
use mathlib.Core.Path.{◌≡◌}
use Prim.Native.Nat.{ℕ, ◌<◌}
use native.Mathlib.Omega.{arith}
use Rattle.card.specs.declared.Row.{Row}
use Rattle.card.specs.Row.{place_of_newest}
use Rattle.card.specs.Sound.{record_count}
use Rattle.card.specs.Records.{record_place, record_offset, oldest_place}
use Rattle.card.proofs.Places.{place_below, offset_inside}
use Rattle.plan.specs.Promised.{Recorded, RecordFits, Fits, newest_of}
use Rattle.plan.specs.declared.Change.{Change}
use Rattle.plan.specs.declared.Change.TheVariants.{Nothing}

-- no change fits
pub none-fits : {change : Change} (t f lc : ℕ) → change ≡ Nothing → Fits t f lc change
unfolding Fits
none-fits t f lc e = rw e tt

-- a new record lies inside its file
pub newest-fits : (t files file : ℕ) (r : Row) → Recorded files r → place_of_newest file < t → RecordFits t files (newest_of file r)
unfolding newest_of oldest_place record_offset record_place
newest-fits t files file r has h =
    let p = place_below (record_count r) r.newest (record_count r) has.counted in
    let m = has.most in
    record {
      file = has.inside;
      inside = offset_inside r has.counted (record_count r);
      entry = h;
      byte = omega arith;
    }

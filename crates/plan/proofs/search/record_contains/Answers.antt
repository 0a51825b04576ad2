-- `plan::search::record_contains` meets its contract: a record of a file is a part of the file memory. Assumes nothing.
use mathlib.Core.Path.{ap, ◌∙◌}
use mathlib.Core.List.{List}
use Prim.Native.Nat.{ℕ}
use Rattle.octets.specs.Bytes.{contains}
use Rattle.octets.proofs.Writes.{lent-part}
use Rattle.plan.specs.Files.{record_bytes}
use Rattle.plan.proofs.search.record_contains.Goals as goal

pub returns : goal.returns
unfolding record_bytes
returns c =
    let s = c.args in
    let o = c.record_offset in
    rw (← o.ensures.0) (c.within.ensures ∙ ap (λ (l : List ℕ). contains l s.«data».now) (lent-part s.files.now s.r.start s.r.size o.result s.r.record_length o.ensures.1))

-- What a command makes and goes by: what stands at the start of the lent bytes, what SEARCH found, and the record number. Assumes nothing.
use mathlib.Core.Path.{◌≡◌, refl, sym}
use mathlib.Core.List.{List, [], ◌∷◌}
use Prim.Native.Nat.{ℕ, ◌≤◌, ◌<◌}
use native.Mathlib.Omega.{arith}
use lib.ListN.{length, take, length-append, length-drop}
use lib.Seq.{take_at}
use lib.Dec.{eqb}
use Rattle.octets.specs.Bytes.{byte, overwrite}
use Rattle.octets.proofs.Picks.{on_pick}
use Rattle.session.specs.declared.Standing.{Standing}
use Rattle.session.specs.Session.{at_record}
use Rattle.command.specs.declared.Format.{Format}
use Rattle.plan.specs.Ends.{done, produced}
use Rattle.command.specs.Outcomes.{normal, end_of_data}
use Rattle.plan.specs.Files.{mode_absolute, number_after}
use Rattle.plan.specs.Plans.{searched}

-- what was written at the start of some bytes is there
pub taken : (rest out : List ℕ) (n : ℕ) → n ≡ length out → take n (overwrite rest 0 out) ≡ out
unfolding overwrite
taken rest out n e = take_at out _ n (sym e)

-- what is written at the start of some bytes and leaves them as long is no longer than they
pub write-short : (m d : List ℕ) → length (overwrite m 0 d) ≡ length m → length d ≤ length m
unfolding overwrite
write-short m d h = omega (arith, simp (length-append, length-drop) at h)

-- what SEARCH found
module _ (format : Format) (s : Standing) where
  pub searched-none : (found : List ℕ) → length found ≡ 0 → done s end_of_data [] ≡ searched format s found
  unfolding searched
  searched-none [] h = refl
  searched-none (x ∷ found) h = absurd (omega arith)

  pub searched-some : (made found : List ℕ) (first : ℕ) → (length found ≡ 0 → ⊥) → first ≡ byte (overwrite made 0 found) 0 → produced format (at_record s first) normal found [] ≡ searched format s found
  unfolding searched overwrite
  searched-some made [] first z e = absurd (z refl)
  searched-some made (x ∷ found) first z e = rw e

-- the record number after a record was named is a byte
pub after_small : (p2 number named : ℕ) → number < 256 → named < 256 → number_after p2 number named < 256
unfolding number_after
after_small p2 number named h g = on_pick (λ (n : ℕ). n < 256) (eqb p2 mode_absolute) number named (λ e. h) (λ e. g)

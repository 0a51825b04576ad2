-- Where a value ends, byte by byte; whether a name stands in front of it, as the library says it; and how large a number of few digits is.
-- Assumes nothing.
use mathlib.Core.Path.{◌≡◌, refl, sym, ◌∙◌}
use mathlib.Core.Bool.{true, false, ◌&&◌, false≢true}
use mathlib.Core.Logic.{⊎_elim}
use mathlib.Core.List.{List}
use Prim.Native.Nat.{ℕ, ◌+◌, ◌-◌, ◌^◌, ◌≤◌, ◌<◌}
use native.Mathlib.Nat.{add-zero, lt_of_lt_of_le, pow-le-pow_right}
use native.Mathlib.Numerals.{add-one}
use native.Mathlib.Omega.{arith}
use lib.ListN.{length, drop, length-drop, drop_of_length-le}
use lib.Seq.{drop-cons, take_all}
use lib.Dec.{eqb}
use borrow.Author.Tests.{eq-eqb, eqb-true, ne_eqb}
use Rattle.octets.specs.Bytes.{byte, part, starts_with}
use Rattle.octets.proofs.Picks.{either}
use Rattle.octets.proofs.Writes.{part_length}
use Rattle.std.specs.Prelude.{nat_eq, [], ◌∷◌}
use Rattle.std.specs.List as list
use Rattle.lines.specs.Values.{up_to, value_end}

-- where a value ends, byte by byte
module _ (stop : ℕ) (bs : List ℕ) (at : ℕ) where
  pub ends_here : at < length bs → byte bs at ≡ stop → value_end stop bs at ≡ at
  unfolding value_end up_to
  ends_here h e = rw (drop-cons bs at 0 h, eq-eqb (byte bs at) stop e, up_to, add-zero)

  pub value_goes_on : at < length bs → (byte bs at ≡ stop → ⊥) → value_end stop bs (at + 1) ≡ value_end stop bs at
  unfolding value_end up_to
  value_goes_on h e = rw (add-one at, drop-cons bs at 0 h, ne_eqb (byte bs at) stop e, up_to) (omega arith)

  pub value_ends : length bs ≤ at → value_end stop bs at ≡ at
  unfolding value_end up_to
  value_ends h = rw (drop_of_length-le bs h, add-zero)

-- a number of few digits
pub few_digits : (bs : List ℕ) (from to base most n : ℕ) → from ≤ to → to ≤ length bs → to - from ≤ most → 1 ≤ base → n < base ^ length (part bs from (to - from)) → n < base ^ most
few_digits bs from to base most n order inside few least small =
    let l : length (part bs from (to - from)) ≡ to - from = part_length bs from (to - from) (omega arith) in
    lt_of_lt_of_le (rw l at small) (pow-le-pow_right least few)

-- behind the end of a run no name stands
pub past_end : (bs name : List ℕ) (at : ℕ) → length bs ≤ at → 1 ≤ length name → starts_with (drop at bs) name ≡ false
unfolding starts_with
past_end bs [] at past some = absurd (omega arith)
past_end bs (b ∷ name) at past some = rw (drop_of_length-le bs past)

same_turned : (a b : ℕ) → eqb a b ≡ eqb b a
same_turned a b =
    ⊎_elim
    (λ (e : eqb b a ≡ true). eq-eqb a b (sym (eqb-true b a e)) ∙ sym e)
    (λ (f : eqb b a ≡ false). ne_eqb a b (λ e. false≢true (sym f ∙ eq-eqb b a (sym e))) ∙ sym f)
    (either (eqb b a))

-- whether a run begins with another, as the library says it
pub begins_with : (bs name : List ℕ) → list.starts_with nat_eq bs name ≡ starts_with bs name
unfolding starts_with
begins_with bs [] = refl
begins_with [] (d ∷ ds) = refl
begins_with (b ∷ bs) (d ∷ ds) = λ i. same_turned d b i && begins_with bs ds i

-- what is lent from a place to the end of a run
pub lent_rest : (bs : List ℕ) (at : ℕ) → part bs at (length bs - at) ≡ drop at bs
lent_rest bs at = take_all (length bs - at) (drop at bs) (simp length-drop (omega arith))

-- the laws by which `value_end` is proved, and `value_at`
pub ruleset ends = (ends_here, value_goes_on, value_ends)

pub ruleset behind = (begins_with, lent_rest, past_end)

-- The first check of a list that fails, the checks behind the formal ones, and the kind of a file that record commands have passed. Assumes nothing.
use mathlib.Core.Path.{◌≡◌}
use mathlib.Core.Bool.{Bool, true, false, ◌||◌}
use mathlib.Core.List.{List, ◌∷◌}
use mathlib.Core.Logic.{⊎_elim}
use Prim.Native.Nat.{ℕ}
use lib.Dec.{eqb}
use borrow.Author.Tests.{eqb-true}
use Rattle.std.specs.Prelude.{Err}
use Rattle.octets.specs.Choice.{pick}
use Rattle.octets.proofs.Picks.{pick_true, pick-false, or_either}
use Rattle.card.specs.declared.Row.{Row}
use Rattle.card.specs.Row.{has_records}
use Rattle.command.specs.Instructions as ins
use Rattle.command.specs.Instructions.{is_record}
use Rattle.plan.specs.Plans.{Situation}
use Rattle.command.specs.declared.checks.Check.{Check}
use Rattle.decide.specs.Order.{select_checks, response_checks, file_checks, later_checks}
use Rattle.decide.specs.Fails.{fails, first_failing, kind_fits}

-- a check that does not fail is passed, and one that fails is the first
module _ (w : Situation) (k : Check) (ks : List Check) where
  pub past : fails w k ≡ false → first_failing w (k ∷ ks) ≡ first_failing w ks
  unfolding first_failing
  past h = pick-false (fails w k) (Err k) (first_failing w ks) h

  pub first : fails w k ≡ true → first_failing w (k ∷ ks) ≡ Err k
  unfolding first_failing
  first h = pick_true (fails w k) (Err k) (first_failing w ks) h

-- the checks behind the formal ones
pub later-select : (i : ℕ) → i ≡ ins.select → later_checks i ≡ select_checks
unfolding later_checks pick
later-select i e = rw e

pub later-response : (i : ℕ) → i ≡ ins.get_response → later_checks i ≡ response_checks
unfolding later_checks pick
later-response i e = rw e

pub later-file : (i : ℕ) → eqb i ins.select ≡ false → eqb i ins.get_response ≡ false → later_checks i ≡ file_checks
unfolding later_checks pick
later-file i a b = rw (a, b)

-- a test that a number is one of several
one_of : {P : Type 0} (i a : ℕ) (b : Bool) → (eqb i a || b) ≡ true → (i ≡ a → P) → (b ≡ true → P) → P
one_of i a b h f g = ⊎_elim (λ e. f (eqb-true i a e)) g (or_either (eqb i a) b h)

-- B2, DC and A2 have passed a file with records
pub record_kind : (i : ℕ) (r : Row) → is_record i ≡ true → kind_fits i r ≡ true → has_records r ≡ true
unfolding kind_fits pick
record_kind i r h k = one_of i ins.read_record _ h (λ e. rw e at k) (λ g. one_of i ins.update_record _ g (λ e. rw e at k) (λ s. rw (eqb-true i ins.search s) at k))

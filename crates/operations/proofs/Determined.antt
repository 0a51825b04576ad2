-- The contract of each public function of this crate allows one result: whatever the arguments and the first content of the script memory,
-- two results that it allows are the same, the answer and of `build` every byte of that memory. Of `build` the contract says the numbers of
-- the answer, and these tell the answer again (`told_back`). Assumes nothing.
use contract.Lifetimes.{Lfts}
use mathlib.Core.Path.{◌≡◌, refl, sym, ap, ◌∙◌}
use lib.Dec.{eqb}
use Rattle.std.specs.Prelude.{Result, Ok, Err}
use Rattle.octets.specs.Choice.{pick}
use Rattle.octets.proofs.Determined.{Determined, by_equation, pair, both}
use Rattle.operations.specs.declared.Built.{Built}
use Rattle.operations.specs.declared.Refusal.{Refusal}
use Rattle.operations.specs.declared.Refusal.TheVariants.{NotAList, NotCarried, TooLong, NoRoom}
use Rattle.operations.specs.declared.Numbers.{Numbers}
use Rattle.operations.specs.Builds.{Building, in_numbers}
use Rattle.operations.proofs.build.Reads as build
use Rattle.operations.proofs.in_numbers.Reads as in_numbers_lem
use Rattle.operations.proofs.rows.is_read.Reads as is_read

-- the answer that has some numbers
back : Numbers → Result Built Refusal
back n =
    pick (eqb n.refusal 0) (Ok (record { operations = n.operations; length = n.length }))
    (pick (eqb n.refusal 1) (Err NotAList)
    (pick (eqb n.refusal 2) (Err (NotCarried n.operations)) (pick (eqb n.refusal 3) (Err TooLong) (Err NoRoom))))

told_back : (built : Result Built Refusal) → back (in_numbers built) ≡ built
unfolding back pick
told_back (Ok b) = refl
told_back (Err NotAList) = refl
told_back (Err (NotCarried operation)) = refl
told_back (Err TooLong) = refl
told_back (Err NoRoom) = refl

module _ (κs : Lfts 0) where
  pub is_read_determined : Determined (is_read.Learnt κs) (λ args a e. a)
  is_read_determined = by_equation (λ args a e h. h)

  pub in_numbers_determined : Determined (in_numbers_lem.Learnt κs) (λ args a e. a)
  in_numbers_determined = by_equation (λ args a e h. h)

module _ (κs : Lfts 3) where
  pub build_determined : Determined (build.Learnt κs) (λ args a e. pair a e.1.1.1.0.now)
  build_determined = by_equation (λ args a e h. both (sym (told_back a) ∙ ap (λ (b : Building). back b.answer) h.0) (ap (λ (b : Building). b.memory) h.0))

-- Where no check of an order fails, every one of them is passed; and what each then promises to the instructions that need it.
-- Nothing fails in a list only if its first check is passed and nothing fails in the rest, so by induction every check is passed
-- (`all_pass`); those of a file command that a plan rests on get names (`Passes`). A check is a choice by the instruction between
-- tests of numbers: with the instruction known the choice is made, and the test gives the equation or the bound (`offset_read`,
-- `length_record`, `named_there` and the others). Assumes nothing.
use mathlib.Core.Path.{◌≡◌, refl, sym, subst}
use mathlib.Core.Bool.{Bool, true, false, not, ◌&&◌, ◌||◌, false≢true}
use mathlib.Core.List.{List, [], ◌∷◌, ◌++◌}
use mathlib.Core.Logic.{◌⊎◌, inl, inr, ⊎_elim}
use Prim.Native.Nat.{ℕ, ◌+◌, ◌≤◌, ◌<◌}
use native.Mathlib.Omega.{arith}
use lib.Dec.{leb, eqb}
use borrow.Author.Tests.{leb-true, leb-false, eqb-true, eqb-false, not-false}
use Rattle.std.specs.Prelude.{Result, Ok, Err}
use Rattle.octets.specs.Choice.{pick}
use Rattle.octets.proofs.Picks.{and_left, and_right, or_none}
use Rattle.card.specs.declared.Row.{Row}
use Rattle.card.specs.Row.{is_cyclic}
use Rattle.card.specs.Sound.{record_count}
use Rattle.command.specs.declared.Command.{Command}
use Rattle.command.specs.Instructions as ins
use Rattle.command.specs.Instructions.{carries_data, case_of, is_record}
use Rattle.plan.specs.Files.{has_record}
use Rattle.plan.specs.Plans.{Situation, named_by}
use Rattle.command.specs.declared.checks.Check.{Check}
use Rattle.command.specs.declared.checks.Check.TheVariants.{WrongCase, NoFile, WrongKind, OffsetOutside, NoRecord, WrongLength, JournalFull, AnswerTooLong}
use Rattle.decide.specs.Order.{formal_checks, bound_checks, file_checks, order}
use Rattle.decide.specs.Fails.{wrong_case, kind_fits, renews, offset_outside, no_record, length_fits, fails, first_failing}
use Rattle.decide.proofs.Order.{later-file}

abbrev pub AllPass : Situation → List Check → Type 0
AllPass w [] = Unit {0}
AllPass w (k ∷ ks) = (fails w k ≡ false) × AllPass w ks

first_passes : (k : Check) (rest : Result (Unit {0}) Check) (b : Bool) → pick b (Err k) rest ≡ Ok tt → (b ≡ false) × (rest ≡ Ok tt)
unfolding pick
first_passes k rest false h = (refl, h)
first_passes k rest true h = absurd (let z : ◌≡◌ {A = ℕ} 0 1 = cc in omega arith)

pub all_pass : (w : Situation) (ks : List Check) → first_failing w ks ≡ Ok tt → AllPass w ks
unfolding first_failing
all_pass w [] h = tt
all_pass w (k ∷ ks) h =
    let f = first_passes k (first_failing w ks) (fails w k) h in
    (f.0, all_pass w ks f.1)

-- a check that is the first to fail does fail; so it is not the one of an answer that is too long
first-fails : (k k' : Check) (rest : Result (Unit {0}) Check) (b : Bool) → pick b (Err k) rest ≡ Err k' → ((b ≡ true) × (k ≡ k')) ⊎ (rest ≡ Err k')
unfolding pick
first-fails k k' rest true h = inl (refl, cc)
first-fails k k' rest false h = inr h

pub failing_fails : (w : Situation) (ks : List Check) (k : Check) → first_failing w ks ≡ Err k → fails w k ≡ true
unfolding first_failing
failing_fails w [] k h = absurd (let z : ◌≡◌ {A = ℕ} 0 1 = cc in omega arith)
failing_fails w (x ∷ ks) k h =
    ⊎_elim
    (λ e. subst (λ (c : Check). fails w c ≡ true) e.1 e.0)
    (λ e. failing_fails w ks k e)
    (first-fails x k (first_failing w ks) (fails w x) h)

pub never_too_long : {A : Type 0} (w : Situation) (ks : List Check) (k : Check) → first_failing w ks ≡ Err k → k ≡ AnswerTooLong → A
unfolding fails
never_too_long w ks k h e = absurd (false≢true (failing_fails w ks AnswerTooLong (rw e at h)))

-- of the checks on a file, those that a plan rests on
pub record Passes (w : Situation) : Type 0 where
  pub case : fails w WrongCase ≡ false
  pub file : fails w NoFile ≡ false
  pub kind : fails w WrongKind ≡ false
  pub offset : fails w OffsetOutside ≡ false
  pub «record» : fails w NoRecord ≡ false
  pub length : fails w WrongLength ≡ false
  pub journal : fails w JournalFull ≡ false

all_passed : (w : Situation) → AllPass w (formal_checks ++ file_checks) → Passes w
unfolding formal_checks file_checks bound_checks
all_passed w (_, (_, (_, (_, (case, (_, (_, (file, (kind, (_, (_, (_, (offset, (named, (long, (_, (journal, _))))))))))))))))) =
    record { case = case; file = file; kind = kind; offset = offset; «record» = named; length = long; journal = journal }

pub passed : (w : Situation) (i : ℕ) → eqb i ins.select ≡ false → eqb i ins.get_response ≡ false → first_failing w (order i) ≡ Ok tt → Passes w
unfolding order
passed w i a b h = all_passed w (all_pass w (formal_checks ++ file_checks) (rw (later-file i a b) at h))

-- neither of two tests
or_first-none : (a b : Bool) → (a || b) ≡ false → a ≡ false
or_first-none false b e = refl
or_first-none true b e = absurd (false≢true (sym e))

-- "wrong case, Lc 0": a command that has its case, and an instruction that carries data, which has some
pub case_right : (c : Command) (lc : ℕ) → wrong_case c lc ≡ false → c.case ≡ case_of c.instruction c.p2
unfolding wrong_case
case_right c lc h = eqb-true _ _ (not-false _ (or_first-none _ _ h))

some_data : (b : Bool) (n : ℕ) → b ≡ true → (b && eqb n 0) ≡ false → 1 ≤ n
some_data b n y h = let z = eqb-false n 0 (rw y at h) in omega arith

pub data_some : (c : Command) (lc : ℕ) → carries_data c.instruction ≡ true → wrong_case c lc ≡ false → 1 ≤ lc
unfolding wrong_case
data_some c lc y h = some_data (carries_data c.instruction) lc y (or_none (not (eqb c.case (case_of c.instruction c.p2))) _ h)

-- kinds, offsets and lengths
module _ (i : ℕ) (r : Row) where
  pub kind_increased : i ≡ ins.increase → kind_fits i r ≡ true → (is_cyclic r ≡ true) × (r.record_length ≤ 127)
  unfolding kind_fits pick
  kind_increased e h =
      let k = rw e at h in
      (and_left _ _ k, leb-true r.record_length 127 (and_right (is_cyclic r) _ k))

  pub offset_read : (offset : ℕ) → i ≡ ins.read_binary → offset_outside i offset r ≡ false → offset < r.size
  offset_read offset e h = leb-false r.size offset (rw e at h)

  module _ (offset p3 lc : ℕ) (h : length_fits i offset p3 lc r ≡ true) where
    pub length_binary : i ≡ ins.update_binary → offset + lc ≤ r.size
    unfolding length_fits pick
    length_binary e = leb-true (offset + lc) r.size (rw e at h)

    pub length_record : i ≡ ins.update_record → lc ≡ r.record_length
    unfolding length_fits pick
    length_record e = eqb-true lc r.record_length (rw e at h)

    pub length_increased : i ≡ ins.increase → lc ≤ r.record_length
    unfolding length_fits pick
    length_increased e = leb-true lc r.record_length (rw e at h)

-- the record that is named is there; DC on a cyclic file names none
both_pass : (a b c : Bool) → a ≡ true → b ≡ false → ((a && not b) && not c) ≡ false → c ≡ true
both_pass a b c y z h = not-false c (rw (y, z) at h)

pub named_there : (c : Command) (number : ℕ) (r : Row) → is_record c.instruction ≡ true → renews c.instruction r ≡ false → no_record c number r ≡ false → (1 ≤ named_by c number r) × (named_by c number r ≤ record_count r)
unfolding no_record has_record
named_there c number r y z h =
    let n = named_by c number r in
    let t = both_pass (is_record c.instruction) (renews c.instruction r) (has_record r n) y z h in
    (leb-true 1 n (and_left _ _ t), leb-true n (record_count r) (and_right (leb 1 n) _ t))

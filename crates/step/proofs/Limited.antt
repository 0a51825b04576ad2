-- The 1,000-byte rule: a decision under it, and how many data bytes are decided. Assumes nothing.
use mathlib.Core.Path.{◌≡◌, refl, sym, ap, subst, ◌∙◌}
use mathlib.Core.Bool.{Bool, true, false, ◌&&◌}
use mathlib.Core.List.{List}
use Prim.Native.Nat.{ℕ, ◌+◌, ◌≤◌}
use native.Mathlib.Omega.{arith}
use lib.Dec.{ltb}
use lib.ListN.{length}
use borrow.Author.Tests.{le-ltb}
use Rattle.octets.specs.Choice.{pick}
use Rattle.octets.proofs.Picks.{pick_true, pick-false}
use Rattle.card.specs.Row.{Card}
use Rattle.card.specs.Sound.{most_file_bytes}
use Rattle.journal.specs.Promised.{HasRoom}
use Rattle.journal.specs.Changes.{cost}
use Rattle.journal.proofs.Parts.{card-table}
use Rattle.session.specs.declared.Standing.{Standing}
use Rattle.command.specs.declared.Format.{Format}
use Rattle.command.specs.declared.Command.{Command}
use Rattle.plan.specs.Ends.{Plan, failed}
use Rattle.command.specs.declared.checks.Check.TheVariants.{AnswerTooLong}
use Rattle.command.specs.Outcomes.{data_count}
use Rattle.decide.specs.Decisions.{situation, planned}
use Rattle.decide.proofs.Planned.{planned_fit}
use Rattle.command.proofs.Outgoing.{data_few}
use Rattle.plan.specs.declared.Decision.{Decision}
use Rattle.plan.specs.declared.Change.TheVariants.{Nothing}
use Rattle.plan.specs.Promised.{plan_of}
use Rattle.plan.proofs.Inside.{none-fits}
use Rattle.step.specs.Limits.{rapdu_size, most_kept, limited}
use Rattle.decide.specs.Promised.{DecideAsks, Decided}

-- whether the R-APDU of a command with n data bytes counts and would pass the 1,000 bytes
abbrev pub passes : ℕ → Bool → ℕ → Bool
passes kept counts n = counts && ltb most_kept (kept + rapdu_size n)

-- one that does not count passes nothing
pub none_counts : (kept n : ℕ) {counts : Bool} → counts ≡ false → passes kept counts n ≡ false
none_counts kept n e = rw e

-- one that counts, by its size
pub counts_so : (kept n : ℕ) {counts over : Bool} {size : ℕ} → counts ≡ true → size ≡ rapdu_size n → ltb most_kept (kept + size) ≡ over → passes kept counts n ≡ over
counts_so kept n e z h = rw (e, ← z) h

module _ (kept : ℕ) (counts : Bool) (s : Standing) (few : kept ≤ most_kept) where
  -- the rule by that test alone
  pub by_passing : (c : Bool) (p : Plan) → limited kept c s p ≡ pick (passes kept c (data_count p.outcome)) (failed s AnswerTooLong) p
  unfolding limited pick
  by_passing true p = refl
  by_passing false p = pick-false (ltb most_kept (kept + 0)) (failed s AnswerTooLong) p (le-ltb most_kept (kept + 0) (omega arith))

  -- what is decided under the rule
  module _ (card : Card) («data» bytes : List ℕ) (plan : Plan) (d : Decision) (told : Decided card «data» bytes plan d) where
    same_test : passes kept counts (data_count plan.outcome) ≡ passes kept counts (data_count d.outcome)
    unfolding plan_of
    same_test = ap (λ (p : Plan). passes kept counts (data_count p.outcome)) (sym told.same)

    pub passing : (r : Decision) → passes kept counts (data_count d.outcome) ≡ true → plan_of r «data» bytes ≡ failed s AnswerTooLong → r.change ≡ Nothing → Decided card «data» bytes (limited kept counts s plan) r
    unfolding failed cost
    passing r test same none =
        let e : limited kept counts s plan ≡ failed s AnswerTooLong = by_passing counts plan ∙ pick_true _ _ _ (same_test ∙ test) in
        record {
          same = same ∙ sym e;
          fits = none-fits _ _ _ none;
          journal = let h = told.journal in subst (λ (p : Plan). HasRoom card.journal (cost p.writes)) (sym e) (omega arith);
        }

    pub within : passes kept counts (data_count d.outcome) ≡ false → Decided card «data» bytes (limited kept counts s plan) d
    within test = subst (λ (p : Plan). Decided card «data» bytes p d) (sym (by_passing counts plan ∙ pick-false _ _ _ (same_test ∙ test))) told

-- what is decided of a command has no more data bytes than a file memory can have
pub decided-few : (format : Format) (domain : ℕ) (c : Command) («data» : List ℕ) (s : Standing) (card : Card) → DecideAsks card s c (length «data») → (bytes : List ℕ) (d : Decision) → Decided card «data» bytes (planned (situation format domain c «data» s card)) d → data_count d.outcome ≤ most_file_bytes
unfolding plan_of
decided-few format domain c «data» s card h bytes d told =
    let brief = h.bytes.brief in
    subst (λ (p : Plan). data_count p.outcome ≤ most_file_bytes) (sym told.same)
    (data_few _ _ ((planned_fit format domain c «data» s card (card-table card h.sound) h.good (omega arith)).outcome h.bytes.p3))

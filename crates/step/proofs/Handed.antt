-- The data that a command hands out: they lie in the file memory after it, whose length it keeps, or in the waiting bytes; they are no more
-- than P3 00 reads in its format; and only a command of case 2 or 4 has any.
-- The plan fits the card (`planned_fit`): its writes lie in their memories, and such a write keeps every length (`perform_lengths`),
-- so an outcome that fits the file memory before the command fits the one after it. That commands of other cases have no data goes by
-- the plan: a command that fails a check has none; one that passes all has the case of its instruction, and `bare_by` goes through the
-- instructions: each either has case 2 or 4, or its plan ends with no data. SELECT is of the one kind or the other by its P2
-- (`bare_select`). Assumes nothing.
use mathlib.Core.Path.{◌≡◌, refl, sym, ap, ◌∙◌}
use mathlib.Core.Bool.{Bool, true, false, ◌||◌, false≢true}
use mathlib.Core.List.{List, [], ◌∷◌}
use Prim.Native.Nat.{ℕ, ◌≤◌, ◌<◌}
use lib.Dec.{eqb}
use lib.ListN.{length}
use borrow.Author.Tests.{not-false}
use Rattle.octets.specs.Choice.{pick}
use Rattle.octets.proofs.Picks.{on_pick}
use Rattle.std.specs.Prelude.{Option, Some, None}
use Rattle.card.specs.Row.{Card, is_cyclic}
use Rattle.journal.specs.Sound.{sound_card}
use Rattle.journal.specs.declared.Memory.{Memory}
use Rattle.journal.specs.declared.Memory.TheVariants.{Files}
use Rattle.journal.specs.Changes.{Write, memory_of, write, perform}
use Rattle.journal.proofs.Parts.{card-table}
use Rattle.journal.proofs.Written.{AllFit, fit_kept, write_lengths}
use Rattle.journal.proofs.Kept.{forms_fit}
use Rattle.session.specs.declared.Standing.{Standing}
use Rattle.session.specs.Good.{Good}
use Rattle.command.specs.declared.Format.{Format}
use Rattle.command.specs.declared.Command.{Command}
use Rattle.command.specs.Instructions as ins
use Rattle.command.specs.Instructions.{is_known, no_data, case_of}
use Rattle.command.specs.Outcomes.{data_count}
use Rattle.command.specs.Promised.{OutcomeFits}
use Rattle.plan.specs.Ends.{Plan, failed, done}
use Rattle.plan.specs.Plans.{most_read, Situation, select_entry, select, update_binary, update_record, switch, done_by}
use Rattle.decide.specs.Order.{formal_checks, order}
use Rattle.decide.specs.Fails.{fails}
use Rattle.decide.specs.Decisions.{situation, planned}
use Rattle.step.specs.Steps.{carried_out}
use Rattle.decide.proofs.Passing.{all_pass, case_right}
use Rattle.decide.proofs.Instructed.{of_planned, by-instruction}
use Rattle.plan.proofs.Fit.{Fit}
use Rattle.decide.proofs.Planned.{planned_fit}

-- writes keep the length of each memory
perform_lengths : (ws : List Write) (c : Card) → AllFit ws c → (m : Memory) → length (memory_of m (perform ws c)) ≡ length (memory_of m c)
unfolding perform
perform_lengths [] c fits m = refl
perform_lengths (w ∷ ws) c fits m =
    let first = write_lengths w c fits.0 in
    perform_lengths ws (write w c) (fit_kept ws c (write w c) first fits.1) m ∙ first m

module _ (s : Standing) (card : Card) (sound : sound_card card ≡ true) (good : Good card.table s) (format : Format) (domain : ℕ) (c : Command) («data» : List ℕ) (brief : length «data» ≤ 255) where
  abbrev plan : Plan
  plan = planned (situation format domain c «data» s card)

  fit : Fit format card s.root c plan
  fit = planned_fit format domain c «data» s card (card-table card sound) good brief

  pub files-kept : (waiting : List ℕ) → length (carried_out plan waiting card).card.files ≡ length card.files
  unfolding carried_out memory_of
  files-kept waiting = perform_lengths plan.writes card (forms_fit plan.writes card fit.forms) Files

  pub outcome_fits : c.p3 < 256 → (waiting : List ℕ) → OutcomeFits (length (carried_out plan waiting card).card.files) plan.outcome
  outcome_fits p3 waiting = rw (files-kept waiting) (fit.outcome p3)

  pub outcome-few : c.p3 < 256 → data_count plan.outcome ≤ most_read format
  outcome-few = fit.few

-- the cases of a command that may hand out data
abbrev hands_out : ℕ → Bool
hands_out case = eqb case 2 || eqb case 4

-- a plan with no data
abbrev Bare : Plan → Type 0
Bare p = data_count p.outcome ≡ 0

module _ (w : Situation) where
  abbrev p2 : ℕ
  p2 = w.command.p2

  -- an instruction whose case is one of them
  other_case : {A : Type 0} {i : ℕ} (x : ℕ) → hands_out (case_of x p2) ≡ true → i ≡ x → hands_out (case_of i p2) ≡ false → A
  other_case x y e h = absurd (false≢true (sym h ∙ ap (λ (k : ℕ). hands_out (case_of k p2)) e ∙ y))

  bare_select : (found : Option ℕ) → hands_out (case_of ins.select p2) ≡ false → Bare (select w.format w.session p2 w.row found)
  unfolding select select_entry case_of pick done failed
  bare_select (Some e) h = on_pick Bare (eqb p2 no_data) _ _ (λ y. refl) (λ n. absurd (false≢true (sym (rw n at h))))
  bare_select None h = refl

  bare_by : (i : ℕ) → is_known i ≡ true → hands_out (case_of i p2) ≡ false → Bare (done_by i w)
  unfolding update_binary update_record switch case_of pick done
  bare_by i known h =
      by-instruction Bare w i
      (λ e. bare_select w.found (rw e at h))
      (λ e. other_case ins.read_binary refl e h)
      (λ e. refl)
      (λ e. other_case ins.read_record refl e h)
      (λ e. on_pick Bare (is_cyclic w.file.row) _ _ (λ y. refl) (λ n. refl))
      (λ e. other_case ins.search refl e h)
      (λ e. other_case ins.increase refl e h)
      (λ e. refl)
      (λ e. refl)
      (λ last. other_case ins.get_response refl (last known) h)

  pub no_data_lem : (eqb w.command.case 2 || eqb w.command.case 4) ≡ false → data_count (planned w).outcome ≡ 0
  unfolding order formal_checks fails failed
  no_data_lem h =
      of_planned Bare w (λ k h. refl)
      (λ none.
      let all = all_pass w (order w.command.instruction) none in
      let its : w.command.case ≡ case_of w.command.instruction p2 = case_right _ _ all.1.1.1.1.0 in
      bare_by w.command.instruction (not-false _ all.1.0) (rw its at h))

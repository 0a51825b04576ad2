-- The room of a command's R-APDU behind those kept, under the 1,000-byte rule. Assumes nothing.
use mathlib.Core.Path.{◌≡◌, sym, subst}
use mathlib.Core.Bool.{Bool, true, false, not, ◌||◌, false≢true}
use mathlib.Core.List.{List}
use Prim.Native.Nat.{ℕ, ◌+◌, ◌≤◌, ◌<◌}
use native.Mathlib.Omega.{arith}
use lib.Dec.{eqb}
use lib.ListN.{length}
use borrow.Author.Tests.{ltb-false}
use Rattle.octets.specs.Choice.{pick}
use Rattle.octets.proofs.Picks.{on_pick, or_none}
use Rattle.card.specs.Row.{Card}
use Rattle.tlv.specs.Lengths.{length_bytes}
use Rattle.journal.specs.Sound.{sound_card}
use Rattle.session.specs.declared.Standing.{Standing}
use Rattle.session.specs.declared.Session.{Session}
use Rattle.session.specs.Good.{Good}
use Rattle.command.specs.declared.checks.Check.TheVariants.{AnswerTooLong}
use Rattle.command.specs.declared.Format.TheVariants.{Expanded}
use Rattle.command.specs.declared.Command.{Command}
use Rattle.command.specs.declared.Outcome.{Outcome}
use Rattle.plan.specs.Ends.{Plan, failed}
use Rattle.command.specs.Checks.{check_word}
use Rattle.command.specs.Outcomes.{word_of, data_count, goes_on}
use Rattle.command.specs.Promised.{OutcomeFits}
use Rattle.step.specs.Steps.{Moved, carried_out, moved_to}
use Rattle.decide.specs.Decisions.{situation, planned}
use Rattle.step.proofs.Handed.{outcome_fits, no_data_lem}
use Rattle.step.specs.Limits.{rapdu_size, most_kept, limited}
use Rattle.step.proofs.Limited.{passes, by_passing}
use Rattle.expanded.specs.Expanded.{keeps, room_to_gather}

module _ (kept : ℕ) (counts : Bool) (s : Standing) (few : kept ≤ most_kept) where
  -- a command on a sound card: its outcome, and the room of its R-APDU behind those kept
  module _ (card : Card) (sound : sound_card card ≡ true) (good : Good card.table s) (domain : ℕ) (c : Command) («data» : List ℕ) (brief : length «data» ≤ 255) (p3 : c.p3 < 256) (waiting : List ℕ) where
    abbrev plan : Plan
    plan = planned (situation Expanded domain c «data» s card)

    abbrev left : Plan
    left = limited kept counts s plan

    limited-fits : OutcomeFits (length (carried_out left waiting card).card.files) left.outcome
    unfolding limited failed OutcomeFits
    limited-fits = on_pick (λ (p : Plan). OutcomeFits (length (carried_out p waiting card).card.files) p.outcome) _ _ _ (λ over. tt) (λ fits. outcome_fits s card sound good Expanded domain c «data» brief p3 waiting)

    -- what is so of an R-APDU that passes, and of one that does not
    by_rule : (P : Plan → Type 0) → (passes kept counts (data_count plan.outcome) ≡ true → P (failed s AnswerTooLong)) → (passes kept counts (data_count plan.outcome) ≡ false → P plan) → P left
    by_rule P over fits = subst P (sym (by_passing kept counts s few counts plan)) (on_pick P _ _ _ over fits)

    limited-kept : counts ≡ true → goes_on (word_of left.outcome) ≡ true → kept + rapdu_size (data_count left.outcome) ≤ most_kept
    unfolding failed check_word
    limited-kept y =
        by_rule (λ (p : Plan). goes_on (word_of p.outcome) ≡ true → kept + rapdu_size (data_count p.outcome) ≤ most_kept)
        (λ over going. absurd (false≢true going))
        (λ fits going. ltb-false most_kept (kept + rapdu_size (data_count plan.outcome)) (rw y at fits))

    limited-room : (definite : Bool) → counts ≡ keeps definite c.case → kept + rapdu_size (data_count left.outcome) ≤ room_to_gather
    unfolding failed rapdu_size length_bytes pick situation
    limited-room definite is =
        by_rule (λ (p : Plan). kept + rapdu_size (data_count p.outcome) ≤ room_to_gather) (λ over. omega arith) (λ fits. by_count counts fits is)
      where
        by_count : (b : Bool) → passes kept b (data_count plan.outcome) ≡ false → b ≡ keeps definite c.case → kept + rapdu_size (data_count plan.outcome) ≤ room_to_gather
        by_count true fits is = let h = ltb-false most_kept (kept + rapdu_size (data_count plan.outcome)) fits in omega arith
        by_count false fits is = rw (no_data_lem (situation Expanded domain c «data» s card) (or_none (not definite) (eqb c.case 2 || eqb c.case 4) (sym is))) (omega arith)

    -- the same of what it comes to
    module _ {s' : Session} {outcome : Outcome} {after : Card} (e : moved_to s' outcome after ≡ carried_out left waiting card) where
      pub step-told : (definite : Bool) → counts ≡ keeps definite c.case
          → OutcomeFits (length after.files) outcome
          × (kept + rapdu_size (data_count outcome) ≤ room_to_gather)
          × (counts ≡ true → goes_on (word_of outcome) ≡ true → kept + rapdu_size (data_count outcome) ≤ most_kept)
      unfolding carried_out
      step-told definite is =
          subst (λ (m : Moved). OutcomeFits (length m.card.files) m.outcome
          × (kept + rapdu_size (data_count m.outcome) ≤ room_to_gather)
          × (counts ≡ true → goes_on (word_of m.outcome) ≡ true → kept + rapdu_size (data_count m.outcome) ≤ most_kept)) (sym e)
          (limited-fits, limited-room definite is, limited-kept)

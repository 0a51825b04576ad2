-- One C-APDU of a script that is going: what running it asks, what gathering its R-APDU asks, and that the script is going again behind it.
-- A command of bytes, read from a C-APDU, may run on the card and in the
-- session that hold. Under the 1,000-byte rule its R-APDU has room behind those kept (`step-told`), and session and card hold after it
-- (`limited_holds`). What is gathered then is the progress of the definition (`stands`), so the script is going (`moves`). Assumes nothing.
use mathlib.Core.Path.{◌≡◌, sym, ap, subst, ◌∙◌}
use mathlib.Core.Bool.{Bool, true, false}
use mathlib.Core.List.{List}
use Prim.Native.Nat.{ℕ, ◌+◌, ◌≤◌, ◌<◌}
use native.Mathlib.Omega.{arith}
use lib.ListN.{length, length-take}
use Rattle.octets.specs.Choice.{pick}
use Rattle.octets.specs.Bytes.{part, overwrite}
use Rattle.card.specs.Row.{Card}
use Rattle.tlv.specs.declared.template.Item.TheVariants.{Capdu}
use Rattle.tlv.specs.Templates.{least_capdu, item_at}
use Rattle.journal.specs.Changes.{taken_back}
use Rattle.session.specs.declared.Session.{Session}
use Rattle.command.specs.declared.Format.TheVariants.{Expanded}
use Rattle.command.specs.declared.Outcome.{Outcome}
use Rattle.command.specs.declared.Reading.{Reading}
use Rattle.command.specs.Outcomes.{word_of, goes_on, data_of, data_count}
use Rattle.command.specs.Promised.{OutcomeFits}
use Rattle.step.specs.Limits.{longest_script, most_kept, rapdu_size}
use Rattle.step.specs.Promised.{RunCommandAsks}
use Rattle.step.specs.Steps.{Moved, moved_to, commanded}
use Rattle.step.specs.declared.lent.Ended.{Ended}
use Rattle.step.proofs.Keeps.{Holds}
use Rattle.step.proofs.Moved.{one_more}
use Rattle.expanded.specs.declared.run.Gathered.{Gathered}
use Rattle.expanded.specs.declared.run.Rapdus.{Rapdus}
use Rattle.expanded.specs.Capdu.{capdu_command}
use Rattle.expanded.specs.Expanded.{keeps, rapdu, room_to_gather, gathered_in, gathered_of, last_rapdu}
use Rattle.expanded.specs.Promised.{CapduFits}
use Rattle.expanded.proofs.Going.{Going, moves}
use Rattle.expanded.proofs.Limited.{step-told}
use Rattle.expanded.proofs.Runs.{limited_holds}
use Rattle.expanded.proofs.Steps.{Within, gathered_within, stands}

module _ {script : List ℕ} {definite : Bool} {from end application domain : ℕ} {card₀ card : Card} {out : List ℕ} {g : Gathered} {at : ℕ} (going : Going script definite from end application domain card₀ card out g at)
    {start size : ℕ} (is : item_at script at end ≡ Capdu start size) (lies : (at < start) × (start + size ≤ end) × (least_capdu ≤ size)) {capdu : List ℕ} (there : capdu ≡ part script start size)
    {reading : Reading} (reads : reading ≡ capdu_command capdu) (fits : CapduFits capdu reading) {«data» : List ℕ} (has : «data» ≡ part capdu reading.from reading.size) where
  few_data : length «data» < 256
  few_data = rw (has, length-take) (omega (arith, fits.bytes.brief))

  few-kept : g.rapdus.kept ≤ most_kept
  few-kept = going.kept (omega (arith, lies.0, lies.1))

  -- what `step` asks
  pub asks : end ≤ length script → length script ≤ longest_script
      → RunCommandAsks card g.step.session.standing reading.command (length «data») g.rapdus.kept × (g.step.count < 65535)
  asks inside short =
      let b = fits.bytes in (
        record {
          ready = record { sound = going.holds.sound; good = going.holds.good; bytes = record { p1 = b.p1; p2 = b.p2; p3 = b.p3; brief = few_data } };
          kept = few-kept;
        },
        omega (arith, going.counted, going.inside),
      )

  -- after `step`
  module _ (room : length out ≡ room_to_gather) {counts : Bool} (keep : counts ≡ keeps definite reading.command.case) {s : Session} {ended : Ended} {card' : Card}
      (did : moved_to s ended.outcome card' ≡ commanded Expanded domain reading.command «data» g.step.session g.rapdus.kept counts card) (one : ended.count ≡ g.step.count + 1) where
    abbrev o : Outcome
    o = ended.outcome

    told : OutcomeFits (length card'.files) o × (g.rapdus.kept + rapdu_size (data_count o) ≤ room_to_gather) × (counts ≡ true → goes_on (word_of o) ≡ true → g.rapdus.kept + rapdu_size (data_count o) ≤ most_kept)
    told =
        step-told g.rapdus.kept counts g.step.session.standing few-kept card going.holds.sound going.holds.good domain reading.command «data» (omega (arith, few_data)) fits.bytes.p3
        g.step.session.waiting did definite keep

    holds : Holds (taken_back card₀) s card'
    holds =
        subst (λ (m : Moved). Holds (taken_back card₀) m.session m.card) (sym did)
        (limited_holds (taken_back card₀) g.step.session card going.holds domain reading.command «data» (omega (arith, few_data)) g.rapdus.kept counts)

    -- what `gather` asks
    pub gather_asks : OutcomeFits (length card'.files) o × (g.rapdus.kept + rapdu_size (data_count o) ≤ length out)
    gather_asks = (told.0, omega (arith, told.1))

    -- after `gather`
    module _ {out' : List ℕ} {rapdus : Rapdus} (written : out' ≡ overwrite out g.rapdus.kept (rapdu (data_of o card'.files s.waiting) (word_of o)))
        (sized : length (rapdu (data_of o card'.files s.waiting) (word_of o)) ≡ rapdu_size (data_count o)) (gathers : rapdus ≡ gathered_in counts g.rapdus.kept (rapdu_size (data_count o))) where
      abbrev after : Gathered
      after = gathered_of (record { session = s; outcome = o; count = ended.count }) rapdus

      within : Within after
      within = gathered_within counts after.step g.rapdus.kept (rapdu_size (data_count o)) told.1 few-kept told.2 gathers

      pub goes_on_lem : Going script definite from end application domain card₀ card' out' after (pick (goes_on (word_of o)) (start + size) end)
      unfolding last_rapdu
      goes_on_lem =
          moves going after out' is lies.0 lies.1
          (stands g card out (omega (arith, few-kept)) definite domain (part script start size) reading (reads ∙ ap capdu_command there) counts keep «data» (has ∙ ap (λ (c : List ℕ). part c reading.from reading.size) there)
          after.step card' (one_more g.step after.step card card' _ did one) (rapdu_size (data_count o)) (sym sized) (omega (arith, told.1)) written gathers)
          within.0 within.1 holds

  -- the place behind it is further on
  later : (b : Bool) → at < pick b (start + size) end
  unfolding pick
  later true = omega (arith, lies.0)
  later false = omega (arith, lies.0, lies.1)

  pub further : (o : Outcome) → at < pick (goes_on (word_of o)) (start + size) end
  further o = later (goes_on (word_of o))

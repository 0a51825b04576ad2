-- A command keeps its card sound, the scripts on trial, its session good, 255 waiting bytes, and what a take-back gives. Assumes nothing.
use mathlib.Core.Path.{◌≡◌, refl, ◌∙◌}
use mathlib.Core.Bool.{true}
use mathlib.Core.List.{List}
use Prim.Native.Nat.{ℕ, ◌≤◌, ◌<◌}
use native.Mathlib.Omega.{arith}
use lib.ListN.{length}
use Rattle.octets.specs.Bytes.{overwrite}
use Rattle.octets.proofs.Writes.{write-length}
use Rattle.card.specs.Row.{Card}
use Rattle.card.proofs.Promises.{few-entries}
use Rattle.journal.specs.Entries.{scripts_on_trial}
use Rattle.journal.specs.Promised.{HasRoom, Starts}
use Rattle.journal.specs.Sound.{sound_card}
use Rattle.journal.specs.Changes.{Write, perform, cost, taken_back}
use Rattle.journal.proofs.Parts.{card-table, card_parts}
use Rattle.journal.proofs.Written.{Writable, sound_writable, AllFit, write_scripts, perform-same}
use Rattle.journal.proofs.Undone.{back_perform}
use Rattle.journal.proofs.Kept.{forms_fit, perform_alike, perform-sound}
use Rattle.session.specs.declared.Session.{Session}
use Rattle.session.specs.Session.{most_waiting, start, start_waiting}
use Rattle.session.specs.Good.{Good}
use Rattle.session.proofs.Good.{good_start, good-kept}
use Rattle.command.specs.declared.Format.{Format}
use Rattle.command.specs.declared.Command.{Command}
use Rattle.command.specs.declared.checks.Check.{Check}
use Rattle.plan.specs.Ends.{Plan, failed}
use Rattle.step.specs.Steps.{Moved, carried_out}
use Rattle.decide.specs.Decisions.{situation, planned}
use Rattle.plan.proofs.Fit.{Fit}
use Rattle.decide.proofs.Planned.{planned_fit}
use Rattle.decide.proofs.Roomy.{planned-room}

-- writes leave the scripts on trial
pub perform_scripts : (ws : List Write) (c : Card) → AllFit ws c → Writable c → HasRoom c.journal (cost ws) → scripts_on_trial (perform ws c).journal ≡ scripts_on_trial c.journal
perform_scripts = perform-same (λ (c : Card). scripts_on_trial c.journal) write_scripts

-- what holds between the commands of a script: a card before it is what a take-back gives
pub record Holds (before : Card) (s : Session) (card : Card) : Type 0 where
  pub sound : sound_card card ≡ true
  pub trial : 1 ≤ scripts_on_trial card.journal
  pub good : Good card.table s.standing
  pub waiting : length s.waiting ≡ most_waiting
  pub back : taken_back card ≡ before

-- a script starts on a sound card with a mark, from an application's root
pub starts_holds : (card : Card) (application : ℕ) → Starts card application → Holds (taken_back card) (start application) card
unfolding start_waiting
starts_holds card application starts =
    record {
      sound = starts.sound;
      trial = starts.marked;
      good = good_start card.table card.files (card-table card starts.sound) application starts.inside starts.root;
      waiting = refl;
      back = refl;
    }

-- and the root's number is small
pub starts-small : (card : Card) (application : ℕ) → Starts card application → application < 64
starts-small card application starts = omega (arith, few-entries card.table card.files (card-table card starts.sound), starts.inside)

module _ (before : Card) (s : Session) (card : Card) (h : Holds before s card) where
  abbrev pub Carries : Plan → Type 0
  Carries p =
      let m : Moved = carried_out p s.waiting card in
      Holds before m.session m.card

  plan_holds : {format : Format} {root : ℕ} {c : Command} (p : Plan) → Fit format card root c p → HasRoom card.journal (cost p.writes) → Carries p
  unfolding carried_out
  plan_holds p fit left =
      let ok = sound_writable card h.sound in
      let fits = forms_fit p.writes card fit.forms in
      let rows = (perform_alike p.writes card (card-table card h.sound) fit.forms).rows in
      record {
        sound = perform-sound p.writes card h.sound fit.forms left h.trial;
        trial = rw (perform_scripts p.writes card fits ok left) h.trial;
        good = good-kept card.table (perform p.writes card).table rows p.session fit.good;
        waiting = let m = fit.made in let w = h.waiting in write-length s.waiting 0 p.made (omega arith) ∙ w;
        back = back_perform p.writes card fits ok left ∙ h.back;
      }

  pub command_holds : (format : Format) (domain : ℕ) (c : Command) («data» : List ℕ) → length «data» ≤ 255 → Carries (planned (situation format domain c «data» s.standing card))
  command_holds format domain c «data» brief =
      plan_holds (planned (situation format domain c «data» s.standing card))
      (planned_fit format domain c «data» s.standing card (card-table card h.sound) h.good brief)
      (planned-room format domain c «data» s.standing card (card_parts card h.sound))

  pub failed_holds : (k : Check) → Carries (failed s.standing k)
  unfolding failed carried_out perform overwrite
  failed_holds k = h

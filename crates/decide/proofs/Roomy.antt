-- What a command plans on a sound card has room in the journal. Assumes nothing.
use mathlib.Core.Path.{◌≡◌, refl, ap, ◌∙◌}
use mathlib.Core.List.{List, []}
use mathlib.Core.Logic.{⊎_elim}
use Prim.Native.Nat.{ℕ}
use native.Mathlib.Omega.{arith}
use lib.Dec.{eqb}
use borrow.Author.Tests.{ltb-false, eqb-true}
use Rattle.std.specs.Prelude.{Ok}
use Rattle.octets.proofs.Picks.{on_pick, either}
use Rattle.octets.specs.Choice.{pick}
use Rattle.card.specs.declared.Row.{Row}
use Rattle.std.specs.Prelude.{Option, Some, None}
use Rattle.card.specs.Row.{Card}
use Rattle.journal.specs.Promised.{HasRoom}
use Rattle.journal.specs.Changes.{Write, cost}
use Rattle.journal.proofs.Parts.{Parts, used-inside, room-left}
use Rattle.session.specs.declared.Standing.{Standing}
use Rattle.command.specs.declared.Format.{Format}
use Rattle.command.specs.declared.Format.TheVariants.{Compact, Expanded}
use Rattle.command.specs.declared.Command.{Command}
use Rattle.command.specs.Instructions as ins
use Rattle.plan.specs.Ends.{Plan, failed, done, produced}
use Rattle.plan.specs.Files.{file_at}
use Rattle.plan.specs.Plans.{Situation, select_entry, select, get_response, done_by}
use Rattle.decide.specs.Order.{order}
use Rattle.decide.specs.Fails.{fails, first_failing, journal_full}
use Rattle.decide.specs.Decisions.{situation, planned}
use Rattle.decide.proofs.Passing.{Passes, passed}
use Rattle.decide.proofs.Instructed.{of_planned}

produced-writes : (format : Format) (s : Standing) (word : ℕ) (d : List ℕ) (ws : List Write) → (produced format s word d ws).writes ≡ ws
unfolding produced
produced-writes Compact s word d ws = refl
produced-writes Expanded s word d ws = refl

select-writes : (format : Format) (s : Standing) (p2 : ℕ) (r : Row) (found : Option ℕ) → (select format s p2 r found).writes ≡ []
unfolding select select_entry failed done
select-writes format s p2 r (Some e) = on_pick (λ (p : Plan). p.writes ≡ []) _ _ _ (λ y. refl) (λ y. produced-writes format _ _ _ [])
select-writes format s p2 r None = refl

select_free : (i : ℕ) (w : Situation) → i ≡ ins.select → (done_by i w).writes ≡ []
unfolding done_by pick
select_free i w e = ap (λ (k : ℕ). (done_by k w).writes) e ∙ select-writes w.format w.session w.command.p2 w.row w.found

response_free : (i : ℕ) (w : Situation) → i ≡ ins.get_response → (done_by i w).writes ≡ []
unfolding done_by get_response pick
response_free i w e = ap (λ (k : ℕ). (done_by k w).writes) e

module _ (format : Format) (domain : ℕ) (c : Command) («data» : List ℕ) (s : Standing) (card : Card) (parts : Parts card.table card.files card.journal) where
  abbrev Room : List Write → Type 0
  Room ws = HasRoom card.journal (cost ws)

  free : (ws : List Write) → ws ≡ [] → Room ws
  unfolding cost
  free ws e = rw e (omega (arith, used-inside card.table card.files card.journal parts))

  file-room : Passes (situation format domain c «data» s card) → Room (done_by c.instruction (situation format domain c «data» s card)).writes
  unfolding fails journal_full situation file_at
  file-room p = room-left card.table card.files card.journal _ parts (ltb-false _ _ p.journal)

  abbrev w : Situation
  w = situation format domain c «data» s card

  done-room : first_failing w (order c.instruction) ≡ Ok tt → Room (done_by c.instruction w).writes
  done-room h =
      let i = c.instruction in
      ⊎_elim
      (λ e. free _ (select_free i w (eqb-true i ins.select e)))
      (λ a. ⊎_elim (λ e. free _ (response_free i w (eqb-true i ins.get_response e))) (λ b. file-room (passed w i a b h)) (either (eqb i ins.get_response)))
      (either (eqb i ins.select))

  pub planned-room : Room (planned w).writes
  unfolding situation failed
  planned-room = of_planned (λ (p : Plan). Room p.writes) w (λ k h. free [] refl) done-room
